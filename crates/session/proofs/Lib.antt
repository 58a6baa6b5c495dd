-- Laws of a session's words, for the crates that read and write them.
pub mod SessionRule
pub mod SoundingParts
pub mod Kept
