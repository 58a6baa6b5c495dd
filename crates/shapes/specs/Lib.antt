-- What a table with loops and curves unfolds to, and how big that is.
pub mod Limits
pub mod Shapes
pub mod Sizes
