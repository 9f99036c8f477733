-- What the proofs of the functions cite.
pub mod Filled
pub mod BackSubstitution
