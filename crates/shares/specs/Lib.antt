-- Working definitions: the bytes that stand at the pivots' positions.
pub mod Shares
