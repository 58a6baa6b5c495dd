pub mod TestLaws
pub mod RangeLaws
pub mod CheckLaws
pub mod OnlyLaws
