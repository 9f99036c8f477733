-- To be believed: what both ends do alike, whichever of T and W makes the delay.
pub mod Alike
