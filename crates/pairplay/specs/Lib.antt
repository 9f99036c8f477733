-- To be believed: what a pair prints; `PlayingPair`, that what is handed out is that; and `OneEmpty`, that one recording of a pair prints
-- what it prints alone.
pub mod Transcript
pub mod Printed
pub mod Alone
-- What `PlayingPair` ties to it: how a pair starts, and one step.
pub mod Steps
