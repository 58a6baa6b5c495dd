-- What the evaluators leave in words, and what their inner functions ask and leave.
pub mod Performed
pub mod Inner
