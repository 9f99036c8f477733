-- The laws that the functions' proofs cite, and those of the places and the flags for callers.
pub mod Filled
pub mod Places
pub mod Flags
