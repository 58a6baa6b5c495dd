-- Laws of verdicts, of the reply table, of the table of contents and of parts of a file, for the crates that check the bodies.
pub mod Verdicts
pub mod RuleRows
pub mod ContentsLaws
pub mod EntryLaws
pub mod PartLaws
