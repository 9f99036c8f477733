-- Working definitions: where the symbols of a codeword stand, and which of them are known.
pub mod Places
