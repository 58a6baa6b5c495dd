-- What `check` prints for a file, and what a run of it comes to.
pub mod Counted
pub mod Tallies
pub mod Checked
pub mod Tallied
pub mod Account
pub mod Inner
