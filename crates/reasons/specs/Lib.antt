-- Why something can't be read or written, in words.
pub mod Reasons
