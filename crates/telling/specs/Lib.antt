-- What people are told of a run that was refused or has failed.
pub mod Said
pub mod Openings
