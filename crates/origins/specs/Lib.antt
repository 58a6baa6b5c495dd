-- What made a byte of the file that a text makes, and what is asked of the functions that look for it.
pub mod Origins
pub mod Aims
