-- Laws of the input as it is read, for the proofs of several functions and for the program above.
pub mod ReadingLaws
pub mod GoingSteps
pub mod Chunks
pub mod OneOutcome
