-- Weighted sums of the vectors of a table of pairs.
use Rattle.std.specs.Prelude.{List, [], ℕ, ◌*◌, get_or}
use Rattle.galois.specs.Byte.{◌⊗◌}
use Rattle.galois.specs.Sum.{sum}
use Rattle.galois.specs.Table.{table}
use Rattle.gathering.specs.Pairs.{vector_of}

-- the sum of the vectors of the first pairs, each by its coefficient in column q
unfoldable pub weighted_of : List (List ℕ) → ℕ → List (List ℕ) → ℕ → List ℕ
weighted_of rows q pairs count =
    table 64 (λ v. sum (count * 2) (λ i. get_or (get_or rows i []) q 0 ⊗ get_or (vector_of pairs i) v 0))
