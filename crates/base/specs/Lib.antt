-- Words that every layer's definitions are written with.
pub mod Tests
pub mod Ranges
pub mod Checks
pub mod Only
