-- To be believed: what the static library's callers keep as bytes, and the causes that these give.
pub mod State
