-- Laws of the lines that `check` prints, for the proofs of several functions and for the program above.
pub mod TallyLaws
pub mod RunLaws
pub mod AccountLaws
pub mod PartLaws
pub mod LineLaws
pub mod EntryNamed
pub mod LongRead
pub mod OneOutcome
pub mod Examples
