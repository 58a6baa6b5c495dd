-- Laws of the calls, for the proofs of several functions and for the layers above.
pub mod NoteLaws
pub mod CallLaws
pub mod GrantLaws
pub mod HeadedLaws
pub mod CallsKeep
pub mod FirstWords
