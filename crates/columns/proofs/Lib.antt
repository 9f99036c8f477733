-- The laws of one position that the functions' proofs cite.
pub mod Search
pub mod Rewritten
