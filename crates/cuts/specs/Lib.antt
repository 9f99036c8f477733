-- Working definitions of a test program: the calls in cut buffers.
pub mod Cuts
