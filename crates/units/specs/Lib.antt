-- The two steps between units, in document 01's words.
pub mod Units
