-- The laws that the crates above cite.
pub mod Passing
pub mod ValueLaws
pub mod PivotSearch
pub mod Spans
pub mod SystematicRows
pub mod Steps
pub mod Roles
pub mod Pivots
pub mod Invariant
pub mod Agreeing
pub mod Decided
pub mod Reductions
pub mod LeftFlags
pub mod OwnColumns
pub mod Terms
pub mod Answers
pub mod LaneDecided
