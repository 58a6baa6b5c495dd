-- Laws of the message table and of its labels, for the proofs of several functions and for the layers above.
pub mod Decoded
pub mod Entries
pub mod LabelLaws
pub mod MessageSteps
