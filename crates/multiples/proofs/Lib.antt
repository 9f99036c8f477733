-- The laws of the multiples of bytes and of rows.
pub mod Digits
pub mod Multiples
