-- When a performance has been refused, how far it has come, and how it ends.
pub mod Refused
pub mod Runs
