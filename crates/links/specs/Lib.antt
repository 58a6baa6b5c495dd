-- What a call to the system comes to, and where a path leads.
pub mod Faults
pub mod Paths
pub mod Looking
pub mod Links
