-- What reading and saving a whole file comes to.
pub mod Files
pub mod Saving
