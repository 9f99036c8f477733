-- The laws that a caller cites.
pub mod FoundLaws
