-- What is asked and answered on the way from an extended score to its unfolded file.
pub mod Inner
