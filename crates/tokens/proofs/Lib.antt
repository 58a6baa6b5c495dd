-- Laws of tokens and each step of the code, for the proofs of several functions and for the crates above.
pub mod TokenLaws
pub mod ShorterLaws
pub mod LabelLaws
pub mod BlankSteps
pub mod NumberSteps
pub mod BeatsSteps
pub mod WordSteps
pub mod LabelSteps
pub mod CopySteps
pub mod PlaceSteps
pub mod OneOutcome
pub mod Examples
