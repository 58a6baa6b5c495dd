-- Laws of a text's lines and each step of the code.
pub mod WordSteps
pub mod LineSteps
pub mod GrammarSteps
pub mod StageSteps
pub mod ScriptSteps
pub mod TallySteps
pub mod BalancedLaws
