-- A score and what was heard of it, as words, and the fate of an item.
pub mod Fields
pub mod Places
pub mod Fates
