-- What `play` prints, from the bytes of a score file and of its input: document 01's paragraph on the program `play`.
pub mod Printed
pub mod Refused
pub mod Inner
