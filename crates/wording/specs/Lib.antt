-- The reply table in words, row by row, and the whole of it as lines.
pub mod Words
