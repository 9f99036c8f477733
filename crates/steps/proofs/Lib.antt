-- The laws that the functions' proofs cite, and what holds of every step.
pub mod Acts
pub mod StepOutcomes
