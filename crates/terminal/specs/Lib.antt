-- Working definitions: a report with a flag that says whether there was a frame.
pub mod Given
