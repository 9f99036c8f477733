-- Laws of the loops, and of the tests.
pub mod Halving
pub mod Places
pub mod SameFrames
pub mod Overlaps
pub mod Walking
pub mod Checking
