-- Laws of an extended score that can be unfolded, for the layers above, and the steps of its check.
pub mod AnswerLaws
pub mod RightLaws
mod TableSteps
mod SpanSteps
mod OwnSteps
mod HopSteps
mod CheckSteps
