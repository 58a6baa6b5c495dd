-- The tokens of the text form: blanks, words, numbers, beats and labels, and where a byte stands.
pub mod Bytes
pub mod Tokens
pub mod Beats
pub mod Places
pub mod Quoted
pub mod Asked
