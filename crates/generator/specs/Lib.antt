-- Working definitions: the generator matrix as rows, and where the source symbols of a row end.
pub mod Matrix
