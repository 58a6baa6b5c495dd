-- Laws of the table of commands, for the proofs of several functions and for the crates above.
pub mod TableSteps
pub mod HelpSteps
pub mod TableLaws
pub mod OneOutcome
pub mod Examples
