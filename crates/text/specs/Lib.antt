-- The text form: its words, its lines, what a text says, the text of a piece, and what is answered.
pub mod Words
pub mod Grammar
pub mod Said
pub mod Beats
pub mod Written
pub mod Replies
pub mod Transcripts
pub mod Layout
pub mod Relaid
