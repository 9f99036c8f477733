-- The laws that the functions' proofs and the receiver's cite.
pub mod OpenedRows
pub mod RowEnds
