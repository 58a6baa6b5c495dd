-- What `play` reads and prints, as bytes: document 01's paragraph on the program `play`.
pub mod Words
pub mod Lines
pub mod Commands
pub mod Input
pub mod Output
