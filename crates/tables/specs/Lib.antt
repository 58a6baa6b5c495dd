-- The items and values of an extended score in words.
pub mod Tables
pub mod Inner
