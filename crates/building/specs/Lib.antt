-- The unfolded score as it is built from a file, its table of shapes and its curves' message numbers.
pub mod Rows
pub mod Inner
