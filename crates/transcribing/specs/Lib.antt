-- What `read`, `write` and `unfold` say of what they refuse, and how they end.
pub mod Told
pub mod Unfolds
