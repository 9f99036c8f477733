-- The laws of the numbers.
pub mod Refusals
