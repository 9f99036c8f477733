-- Working definitions: what the benchmark times.
pub mod Timed
