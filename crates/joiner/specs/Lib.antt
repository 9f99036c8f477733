-- Working definitions: what halving knows, where a slot's frame is, and what the frames of a pair meet.
pub mod Halving
pub mod Places
