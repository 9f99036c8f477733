-- What is proved of polynomials over the bytes, and of the losses that a codeword can repair.
pub mod Polynomials
pub mod Roots
pub mod RowPolynomials
pub mod RowUnique
pub mod SpreadWords
pub mod Erasures
pub mod LateRows
pub mod Cross
pub mod LateLoss
pub mod BurstLoss
pub mod ScatteredLoss
pub mod OneCodeword
pub mod Stretch
pub mod FairLaws
pub mod FairTest
pub mod FairExample
pub mod Window
