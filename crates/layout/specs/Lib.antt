-- To be believed: which numbers of the static library's replies are acceptances.
pub mod Numbers
