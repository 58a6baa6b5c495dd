-- Laws of the item table and of its walk, for the proofs of several functions and for the layers above.
pub mod Decoded
pub mod Walked
pub mod BrokenRules
pub mod WalkLaws
pub mod WalkSteps
pub mod WalkEnds
pub mod Ranges
