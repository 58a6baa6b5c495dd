-- What is answered of an extended score, and what the inner functions say.
pub mod Answers
pub mod Inner
