-- Laws of the reasons and their lines.
pub mod ReasonLaws
pub mod Apart
pub mod Examples
