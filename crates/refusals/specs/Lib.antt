-- The entry that a byte of a file lies in, and the line that tells people of a refusal.
pub mod Entries
pub mod Line
pub mod Texts
pub mod Unfolds
