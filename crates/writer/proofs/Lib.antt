-- Laws of the writer's steps.
pub mod Pieces
pub mod FractionLaws
pub mod Owed
pub mod QuoteSteps
pub mod PhraseSteps
pub mod LineLaws
pub mod NestLaws
pub mod NestSteps
pub mod PageLaws
pub mod PageSteps
pub mod TextSteps
pub mod OneOutcome
