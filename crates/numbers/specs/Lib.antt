-- To be believed: numbers and bytes in digits.
pub mod Digits
