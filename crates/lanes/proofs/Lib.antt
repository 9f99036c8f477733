-- The laws that the functions' proofs cite.
pub mod Combined
pub mod Clashes
pub mod Said
pub mod Gathered
