-- Laws of the second pass over a text.
pub mod RunLaws
pub mod TurnSteps
pub mod ListSteps
pub mod GoingLaws
pub mod PageSteps
pub mod MakeSteps
pub mod OneOutcome
