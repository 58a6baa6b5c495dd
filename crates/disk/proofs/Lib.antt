-- Laws of a file read or saved whole, for the proofs of several functions.
pub mod SaveSteps
