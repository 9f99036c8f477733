-- To be believed: what a recording prints, and `Playing`, that what is handed out is that.
pub mod Transcript
pub mod Printed
-- What `Playing` ties to it: buffers filled by steps.
pub mod Filling
