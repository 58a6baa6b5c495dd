-- Laws of the opening, for its functions' proofs and for the layers above.
pub mod ListLaws
pub mod OpeningSteps
pub mod OpeningSplit
pub mod ClearSteps
pub mod WrittenLaws
pub mod StartLaws
pub mod ClearedLaws
pub mod NewSession
pub mod Fitting
pub mod Fresh
pub mod Opened
pub mod WriteSteps
