-- To be believed: the static library's calls, one by one and in lists, demands 1 and 3 about them, what look-ups tell
-- early, what the slots that are read tell, and what holds of a pair of recordings that is fed.
pub mod Causes
pub mod Calls
pub mod Chains
pub mod Refusals
pub mod Claim
pub mod Early
pub mod Slots
pub mod Fed
