-- The laws of halves, and of sums by them.
pub mod Halves
pub mod Planes
