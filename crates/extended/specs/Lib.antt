-- The extended score: its layout, its items and points, and when it can be unfolded.
pub mod Layout
pub mod Folds
pub mod Points
pub mod Right
pub mod Inner
