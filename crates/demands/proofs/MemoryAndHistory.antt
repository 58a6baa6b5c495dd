-- Session memory and the history of the calls are tied: the words of a session say what the history comes to, and every call keeps them so.
pub mod Shows
pub mod Due
pub mod Settled
pub mod Outcomes
pub mod Nesting
pub mod Runs
pub mod Actions
pub mod Fair
pub mod Delays
pub mod Taken
pub mod Holds
pub mod Finish
pub mod Reading
pub mod Noted
pub mod Calls
pub mod Opened
pub mod Answers
