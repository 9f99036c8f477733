-- The laws of what bytes say of themselves.
pub mod EachPlace
pub mod SlotBytes
