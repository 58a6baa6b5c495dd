-- The bytes of a file as they are laid one behind the other, and the last field of an item among them.
pub mod Pieces
pub mod Lasts
pub mod Bodies
