-- Laws of the way from an extended score to its file.
pub mod FinishSteps
pub mod ScoreLaws
pub mod SizeSteps
pub mod NumberSteps
pub mod CallSteps
