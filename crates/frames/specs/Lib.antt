-- To be believed: what bytes say of themselves, for the player and the static library.
pub mod Fields
