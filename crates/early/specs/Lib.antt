-- To be believed: lists of reports and look-ups mixed, and what holds of them.
pub mod Mixed
pub mod Early
pub mod Told
pub mod Runs
