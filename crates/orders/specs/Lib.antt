-- What `bin/poolmirror COMMAND ARGS` decides from its arguments.
pub mod Usage
pub mod Names
pub mod Said
pub mod Endings
