-- Working definitions: what a step tells.
pub mod Refusal
