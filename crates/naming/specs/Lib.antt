-- Values named by messages: what is asked and promised, and what the functions inside say of each other.
pub mod Named
pub mod Inner
