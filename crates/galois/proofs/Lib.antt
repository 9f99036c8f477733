-- The laws that the crates above cite.
pub mod Arithmetic
pub mod Cases
pub mod Xor
pub mod Field
pub mod NarrowField
pub mod Tables
pub mod ByteProduct
pub mod ByteField
pub mod Extension
pub mod Sums
pub mod Counting
pub mod ByIndex
pub mod ArrayBytes
