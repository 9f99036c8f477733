-- Working definitions: what elimination says of all lanes.
pub mod Lanes
