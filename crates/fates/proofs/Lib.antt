-- What the proofs of several functions use; the public ones are for the layers above.
pub mod FieldLaws
pub mod LastLaws
pub mod ReadLaws
pub mod OutcomeLaws
mod HalvingLaws
mod FateLaws
