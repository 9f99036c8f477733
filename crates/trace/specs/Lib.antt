-- Working definitions of the test programs: the parts of a line.
pub mod Line
