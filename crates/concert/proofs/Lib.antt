-- What is printed is what the rules give.
pub mod MessageNumbers
pub mod AnswerTold
pub mod Unopened
pub mod Told
pub mod LongScore
