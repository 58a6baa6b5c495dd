-- Messages and label bytes: which are right, and what they say.
pub mod Messages
