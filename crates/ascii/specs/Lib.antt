-- Bytes, decimals and fixed words, for whatever is read or written as text.
pub mod Text
pub mod Words
pub mod Numbers
pub mod Decimals
pub mod Laying
