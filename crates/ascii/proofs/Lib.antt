-- Laws of bytes, decimals and fixed words, for the proofs of several functions and for the crates above.
pub mod WordSteps
pub mod WordLaws
pub mod NumberSteps
pub mod LayLaws
pub mod DecimalLaws
pub mod DigitSteps
pub mod OneOutcome
