-- Working definitions: the source symbols that a parity symbol is the sum of, and the parity symbols of a frame.
pub mod Sources
pub mod Parities
