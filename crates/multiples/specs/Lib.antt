-- Working definitions: the multiples of a row.
pub mod Quarters
