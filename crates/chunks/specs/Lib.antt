-- The input of `play` as it is read, in whatever chunks it comes.
pub mod Reading
pub mod Inner
