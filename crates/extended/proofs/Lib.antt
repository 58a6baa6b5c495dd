-- Laws of the extended score.
pub mod ListLaws
pub mod TakeLaws
pub mod NestingLaws
pub mod RightLaws
mod ReadSteps
