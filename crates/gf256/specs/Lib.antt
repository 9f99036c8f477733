-- To be believed: what an answer of the code is.
pub mod Answer
