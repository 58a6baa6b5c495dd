-- The commands of `bin/poolmirror`.
pub mod Table
pub mod Rows
pub mod Help
