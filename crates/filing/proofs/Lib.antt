-- Laws of the bytes of a file, for the proofs of several functions and for the crates above.
pub mod LayingSteps
pub mod LastLaws
pub mod BodySteps
