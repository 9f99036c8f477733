-- Working definitions: weighted sums.
pub mod Weighted
