-- The laws of the call.
pub mod CallOutcomes
