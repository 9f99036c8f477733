-- Laws of the start, and of what a step is lent.
pub mod Starts
pub mod Lent
