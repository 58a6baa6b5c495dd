-- Laws of what `play` reads and prints, for the proofs of several functions and for the program above.
pub mod CommandSteps
pub mod PartsLaws
pub mod KeptLaws
pub mod PrintLaws
pub mod LineLengths
pub mod FeedSteps
pub mod OneOutcome
pub mod Examples
