-- What `Playing` of the crate player ties to the transcript: how a player begins, and one step.
pub mod Steps
