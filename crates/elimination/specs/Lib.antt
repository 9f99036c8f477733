-- To be believed: what the fitting words say of a symbol.
pub mod Values
-- Working definitions: the elimination that decides it.
pub mod Elimination
