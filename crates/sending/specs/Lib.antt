-- Waiting messages and their sending: the last paragraph of document 01's rules of performance, over a session's words.
pub mod Room
pub mod Sending
pub mod Inner
