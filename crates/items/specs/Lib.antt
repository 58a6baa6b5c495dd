-- The item table: what an item is, which items are right where, and what holds of them.
pub mod Items
pub mod Ranged
pub mod Inner
