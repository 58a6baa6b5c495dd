-- Laws of what one call comes to, for the proofs of several functions.
pub mod CallSteps
