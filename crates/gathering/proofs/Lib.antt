-- The laws of a table of pairs.
pub mod PairLaws
pub mod Gathered
