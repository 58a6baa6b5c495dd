-- Laws of unfolding and of its sizes.
pub mod UnfoldLaws
pub mod SizeSteps
pub mod SizeLaws
pub mod Examples
