-- Laws of reading the arguments and of what is told of them, for the proofs of several functions and for the program above.
pub mod UsageSteps
pub mod SaidSteps
pub mod OrderLaws
pub mod RightLaws
pub mod NamedLaws
pub mod ShownLaws
pub mod OneOutcome
pub mod Examples
