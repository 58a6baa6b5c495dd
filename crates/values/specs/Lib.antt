-- The values of a curve, and the messages that they are sent as.
pub mod Integers
pub mod Curves
pub mod Digits
pub mod Inner
