-- To be believed, in the order of document 01: settings, the entries of the generator matrix, its words, and which of them fit.
pub mod Settings
pub mod Matrix
pub mod Word
pub mod Fitting
