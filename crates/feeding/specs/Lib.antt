-- To be believed: a receiver that is fed from a pair, and what holds of its reports.
pub mod Fed
