-- What the proofs of the functions cite, and those of the sender.
pub mod Places
pub mod SystematicSums
pub mod Gathered
pub mod Parities
