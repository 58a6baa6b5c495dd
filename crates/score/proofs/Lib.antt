-- Laws of the file check and of the file, for the proofs of several functions and for the layers above.
pub mod Decoded
pub mod EventSteps
pub mod Accepted
pub mod FileSteps
pub mod Readers
pub mod LookUps
pub mod EncodingBytes
pub mod EncodingFiles
pub mod Fielded
pub mod EncodingReads
pub mod EncodingPieces
pub mod LongFile
pub mod Where7Stood
pub mod BodyFaults
pub mod FaultPlaces
