-- Working definitions: what a step comes to, and what it leaves in a lent line.
pub mod Acts
pub mod Outcomes
