-- The laws that the functions' proofs cite, and what those of a player's steps need.
pub mod StartLaws
pub mod StopLaws
