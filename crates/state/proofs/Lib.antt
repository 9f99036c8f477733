-- The laws of a state as bytes.
mod SameBytes
pub mod StateBytes
pub mod KeptStates
