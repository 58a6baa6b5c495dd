-- Laws of a line that is read, and of the loop over a chunk.
pub mod OpeningLaws
mod TurnSteps
mod ChunkSteps
