-- The laws that the crates above cite.
pub mod FrameLaws
pub mod TableLaws
pub mod CheckLaws
pub mod PairLaws
pub mod PartLaws
pub mod Accepted
pub mod Lent
pub mod NextLaws
