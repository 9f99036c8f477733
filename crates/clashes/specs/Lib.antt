-- Working definitions: what clashes, by the sums of all lanes.
pub mod Clashes
