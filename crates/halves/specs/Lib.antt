-- Working definitions: the halves of coefficients, two in a byte.
pub mod Halves
