-- What each call of a session makes of its words: document 01's section 'Replies'.
pub mod Replies
pub mod Calls
