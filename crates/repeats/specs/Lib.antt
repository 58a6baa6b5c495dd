-- An unfolded score as the rules read it.
pub mod Sequences
pub mod Tops
pub mod Runs
