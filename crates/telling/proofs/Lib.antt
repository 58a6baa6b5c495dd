-- Laws of what people are told.
pub mod OpeningLaws
mod RefusalSteps
mod SaidSteps
