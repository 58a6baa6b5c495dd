-- Each step of looking for what made a byte, and laws of what is found.
mod AimSteps
mod LineSteps
mod SeekSteps
mod PlaceSteps
pub mod Tails
pub mod LineTokens
pub mod PlaceLaws
pub mod OriginLaws
pub mod LabelFaults
pub mod FaultOrigins
pub mod WrittenTokens
pub mod WrittenLines
pub mod LineEntries
pub mod EntryLines
pub mod OneOutcome
pub mod Examples
