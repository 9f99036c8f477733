-- What the proofs of several calls cite.
pub mod Passed
