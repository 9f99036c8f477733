-- The laws that the functions' proofs cite, and those that a caller cites.
pub mod Decimals
pub mod DecimalCases
pub mod HexDigits
pub mod Putting
pub mod DecimalsPut
