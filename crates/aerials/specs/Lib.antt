-- To be believed: a pair of recordings, the table of its causes, what is accepted, and the part that is lent for a slot.
pub mod Tables
pub mod Causes
pub mod Pair
pub mod Sound
pub mod Parts
pub mod Meaning
-- Working definitions: the next slot of a pair.
pub mod Next
