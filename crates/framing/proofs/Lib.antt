-- The laws of a frame's body.
pub mod Bodies
