-- What the proofs of several functions use; the public ones are for the layers above.
mod SequenceLaws
pub mod FrameLaws
mod WalkLaws
mod RunLaws
mod PageLaws
pub mod PlaceLaws
