-- To be believed: nothing beyond protocol's definitions; a byte of the rows that an opening writes, which is theirs by `opened_rows_lem`.
pub mod Bytes
