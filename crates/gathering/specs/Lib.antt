-- Working definitions: a table of vectors in pairs.
pub mod Pairs
