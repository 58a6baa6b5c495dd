-- Laws of the table and of the values.
pub mod CurveCounts
pub mod WalkSteps
pub mod RowSteps
pub mod ValueLaws
pub mod FillSteps
pub mod TableLaws
pub mod Examples
