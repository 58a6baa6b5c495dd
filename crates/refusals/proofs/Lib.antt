-- Laws of the entries of a file and of a refusal's line, for the proofs of several functions and for the programs above.
pub mod EntryLaws
pub mod LineLaws
pub mod NameLaws
pub mod Examples
pub mod TextLaws
pub mod UnfoldLaws
pub mod FoldedNamed
