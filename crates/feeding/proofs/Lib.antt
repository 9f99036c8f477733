-- The theorems.
pub mod Frames
pub mod Lending
pub mod Feeding
pub mod Demand
