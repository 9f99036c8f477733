-- The laws of grades and of parts of a buffer that the functions' proofs cite.
pub mod Grades
pub mod Parts
