-- What is asked of the second pass over a text and of the file that it makes.
pub mod Items
pub mod Turns
pub mod Filled
