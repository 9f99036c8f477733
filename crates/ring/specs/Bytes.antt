-- The rows that an opening writes, byte by byte.
use Rattle.std.specs.Prelude.{cond, ℕ, ◌/◌, ◌%◌, eqb, ltb}

-- byte q of rows of this size: the first byte of a row is 1, from row `lost` on, and all others are 0
abbrev pub opened_byte : ℕ → ℕ → ℕ → ℕ
opened_byte size lost q = cond (ltb (q / size) lost) 0 (cond (eqb (q % size) 0) 1 0)
