-- Loops and curves unfolded: the extended piece, the list of messages as values join it, the unfolded score, its limits, and what is answered.
pub mod Messages
pub mod Extended
pub mod Unfolded
pub mod Sizes
pub mod Answers
pub mod Replies
pub mod Pieces
pub mod Plain
