-- What a run of calls sends and replies, from the score and the history of the calls alone; the same run over session memory; and of a score that was read from text.
pub mod History
pub mod Messages
pub mod Before
pub mod Answers
pub mod Memory
pub mod Demands
pub mod Texts
