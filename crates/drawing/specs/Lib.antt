-- Working definitions of the test programs: the numbers that they draw.
pub mod Drawn
