-- Laws of the reply table in words, for the proofs of several functions and for the crates above.
pub mod CaseLaws
pub mod FigureLaws
pub mod TableLaws
pub mod Apart
pub mod EveryRow
pub mod RowLaws
