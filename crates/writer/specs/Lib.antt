-- The writer's steps: a line's pieces, and which lines are laid of the items, the page and the message list.
pub mod Phrases
pub mod Fractions
pub mod Layouts
