-- The laws that the crates above cite.
pub mod Shape
pub mod Products
pub mod Rows
pub mod Entries
pub mod Words
pub mod Symbols
pub mod Systematic
pub mod Fits
pub mod FromFn
