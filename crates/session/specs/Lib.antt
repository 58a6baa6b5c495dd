-- A session's words: their places, the part bits, number 10's rule, and the reply table's row of every refusal.
pub mod Layout
pub mod Parts
pub mod Session
pub mod Replies
pub mod Inner
