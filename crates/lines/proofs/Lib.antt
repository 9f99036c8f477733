-- The laws that the functions' proofs cite, and those that a caller cites.
pub mod TextLaws
pub mod TextCases
pub mod WrittenLines
pub mod LentLines
