-- The generator matrix G as rows, and where the source symbols of a row end.
use Rattle.std.specs.Prelude.{cond, List, ℕ, ◌+◌, ltb}
use Rattle.galois.specs.Table.{table}
use Rattle.code.specs.declared.settings.Settings.{Settings}
use Rattle.code.specs.Settings.{k_of}
use Rattle.code.specs.Matrix.{entry}

-- G as 16 rows of 16
unfoldable pub generator_of : Settings → List (List ℕ)
generator_of s = table 16 (λ i. table 16 (λ j. entry s i j))

-- the end of the source positions of row i that are not 0: its zero points above it start at i + N, or none is left before k
unfoldable pub band_end : Settings → ℕ → ℕ
band_end s i = cond (ltb (k_of s) (i + s.scattered)) (k_of s) (i + s.scattered)
