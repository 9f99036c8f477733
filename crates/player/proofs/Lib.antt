-- The laws that the functions' proofs cite, and the theorem that the fillings hand out the transcript.
pub mod StepsLeft
pub mod StepList
pub mod Kept
pub mod Gathering
pub mod FillLaws
pub mod LoopLaws
pub mod Played
