-- The laws of flags and answers that the functions' proofs cite.
pub mod SameValues
pub mod LaneSaid
pub mod Answers
pub mod ParityFlags
pub mod Pivots
