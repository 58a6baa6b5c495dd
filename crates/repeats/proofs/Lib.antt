-- When passes and values come, by the rules' own dates.
pub mod PageSequence
pub mod TopSequences
pub mod LoopRuns
pub mod LooseDates
pub mod Performed
pub mod Unfoldings
