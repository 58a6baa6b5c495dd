-- Hints for people: what a common mistake in a text looks like, and what is told of it.
pub mod Hints
pub mod Asked
