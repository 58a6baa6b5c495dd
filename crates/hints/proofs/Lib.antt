-- Laws of hints and each step of the code, for the proofs of several functions and for the crates above.
pub mod WordSteps
pub mod MarkSteps
pub mod FractionSteps
pub mod ChoiceSteps
pub mod TableLaws
pub mod Examples
