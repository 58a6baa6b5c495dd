-- Laws of keys and of the list, for the proofs of several functions and for the crates above.
pub mod EntryLaws
pub mod KeyLaws
pub mod GrowthLaws
pub mod KeySteps
pub mod ListSteps
pub mod SearchSteps
pub mod PlaceSteps
pub mod EachSteps
pub mod Told
