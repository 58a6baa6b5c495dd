-- Laws of unfolding.
pub mod Shapes
pub mod CountLaws
pub mod CurveItems
pub mod MessageLaws
pub mod Nesting
pub mod SelfLaws
pub mod LimitLaws
pub mod Fitting
pub mod FileLaws
pub mod OneOutcome
pub mod NeverNested
pub mod PlainFiles
pub mod PlainNesting
pub mod PlainScores
pub mod Examples
pub mod GrantedLaws
