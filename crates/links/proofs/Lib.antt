-- Laws of what a call to the system comes to and of where a path leads, for the proofs of several functions; small paths worked by hand.
pub mod FaultSteps
pub mod PathSteps
pub mod SmallPaths
pub mod LookSteps
pub mod LinkSteps
