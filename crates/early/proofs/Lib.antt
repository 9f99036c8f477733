-- The laws of the mixed lists, in the order of their proof.
pub mod Lists
pub mod Points
pub mod Early
pub mod Told
pub mod Runs
pub mod LaterLost
