-- The laws that the functions' proofs cite, and the theorems: the steps hand out the transcript, and one recording prints as alone.
pub mod Starts
pub mod Slots
pub mod PairActs
pub mod Left
pub mod NextActs
pub mod FedSteps
pub mod PlayedPair
pub mod Beside
pub mod Alone
