-- Working definitions: what stands at an offset of a recording.
pub mod Found
