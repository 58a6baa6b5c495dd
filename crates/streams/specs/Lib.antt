-- What moving bytes to and from the system comes to.
pub mod Outcomes
pub mod Endings
