-- What a reader must believe of both ends, in the order of reading.

-- Document 01's definitions: "Slots, messages, frames",
pub mod Lengths
pub mod Frame
pub mod Codewords
-- what the calls answer,
pub mod Answers
-- "What is remembered", and demand 2's verdict,
pub mod States
pub mod Rows
pub mod Verdict
-- "Why a call says no", and so each call,
pub mod Causes
pub mod Numbers
pub mod Calls
-- "Two lists, one claim": the lists, and what they say of each slot.
pub mod TwoLists
pub mod Histories
-- The demands, as statements about these definitions; proofs/ has the theorem of each.
-- Demand 1: `Demand1`. Demand 2: `Demand2Frame` and `Demand2Verdict`, and of a look-up `LookUpTells`; an opening at any slot:
-- `Openings`. Demand 3: `Demand3`, and `Demand3Runs` of a program's calls. T as set, and the number that stands for it: `Delays`.
pub mod Refusals
pub mod Meaning
pub mod Opening
pub mod Claim
pub mod Runs
pub mod Delay
