-- What every part of a file's check stands on: the numbers of document 01's section 'The score file', bytes, the reply table's rows of a file, and the table of contents.
pub mod Limits
pub mod Bytes
pub mod Replies
pub mod Contents
pub mod Entries
pub mod Inner
