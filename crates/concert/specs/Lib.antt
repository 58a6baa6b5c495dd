-- What `play` prints, by the score and the history of the calls alone.
pub mod Told
