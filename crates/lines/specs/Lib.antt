-- To be believed: the lines.
pub mod Text
-- Working definitions: what a writer leaves of a lent line.
pub mod Lent
