-- What is said of a text, a file or an extended score, case by case.
pub mod ToldSteps
pub mod UnfoldSteps
