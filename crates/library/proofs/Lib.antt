-- The laws of the calls, and what the proofs of the functions cite.
pub mod Outcomes
pub mod Refused
pub mod Slots
pub mod SlotsTold
pub mod Chains
pub mod Partners
pub mod Demand
pub mod Early
pub mod Fed
