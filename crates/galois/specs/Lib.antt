-- To be believed: Reciprocal, what a field answers for one, then Narrow and Byte, in the order of the document. Bounded, Sum and Table are
-- the tests, sums and lists that they and the crates above are written with.
pub mod Bounded
pub mod Reciprocal
pub mod Narrow
pub mod Byte
pub mod Sum
pub mod Table
