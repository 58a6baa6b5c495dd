-- What a score file is, when it is accepted, and what is read and looked up in it: document 01's section 'The score file', by its three parts.
pub mod Events
pub mod Piece
pub mod File
pub mod LookUp
pub mod Encode
pub mod Readers
pub mod Inner
pub mod Before
