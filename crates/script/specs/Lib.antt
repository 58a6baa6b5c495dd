-- What is asked of the functions that read a text's lines and of the first pass over them, and what is known of a text that was counted.
pub mod Steps
pub mod Stages
pub mod Tallies
pub mod Balanced
