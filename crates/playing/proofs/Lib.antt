-- Laws of what is printed, for the proofs of several functions and for the program above.
pub mod SentSteps
pub mod CallSteps
pub mod OpenSteps
pub mod LineSteps
pub mod OneOutcome
