-- The laws of the bytes at the pivots' positions.
pub mod Shares
