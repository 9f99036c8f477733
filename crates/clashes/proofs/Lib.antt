-- The laws that the functions' proofs cite.
pub mod Unlike
pub mod Looks
