-- The opening: when it is granted, its reply, and the words of a new session.
pub mod Opening
pub mod Replies
