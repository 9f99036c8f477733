-- Sixteen vectors of 64 lanes in eight pairs: entry 2j of their table is zeros, entries 2j + 1 and 2j + 16 are the two vectors of pair j,
-- and entry 2j + 17 is their sum.
use Rattle.std.specs.Prelude.{◌≡◌, cond, List, [], ℕ, zero, suc, ◌+◌, ◌*◌, ◌/◌, ◌%◌, ◌<◌, ◌≤◌, ltb, length, get_or, set}
use Rattle.std.specs.Int.Bits.{bit_and}
use Rattle.galois.specs.Byte.{◌⊕◌}
use Rattle.galois.specs.Table.{table}
use Rattle.gathering.specs.declared.Source.{Source}

-- the pairs that k vectors fill
abbrev pub pairs_of : ℕ → ℕ
pairs_of k = (k + 1) / 2

-- vector i
unfoldable pub vector_of : List (List ℕ) → ℕ → List ℕ
vector_of pairs i = get_or pairs (i / 2 * 2 + (1 + i % 2 * 15)) []

-- 32 vectors of 64 lanes
pub record Wide (pairs : List (List ℕ)) : Type 0 where
  pub entries : length pairs ≡ 32
  pub lanes : (e : ℕ) → e < 32 → length (get_or pairs e []) ≡ 64

-- byte v of a source: as it stands under the mask 255, and 0 under 0
unfoldable pub byte_of : List ℕ → Source → ℕ → ℕ
byte_of bytes x v = bit_and (get_or bytes (x.start + v) 0) x.keep

-- a vector with f over its first m lanes
unfoldable pub laid : List ℕ → ℕ → (ℕ → ℕ) → List ℕ
laid vector m f = table 64 (λ v. cond (ltb v m) (f v) (get_or vector v 0))

-- pair j with the bytes of two sources over the first lanes of its two vectors and of their sum
unfoldable pub paired_up : List (List ℕ) → ℕ → List ℕ → ℕ → Source → Source → List (List ℕ)
paired_up pairs j bytes lanes first second =
    set
    (set
    (set pairs (j * 2 + 1) (laid (get_or pairs (j * 2 + 1) []) lanes (byte_of bytes first)))
    (j * 2 + 16)
    (laid (get_or pairs (j * 2 + 16) []) lanes (byte_of bytes second)))
    (j * 2 + 17)
    (laid (get_or pairs (j * 2 + 17) []) lanes (λ v. byte_of bytes first v ⊕ byte_of bytes second v))

-- a table of pairs with the bytes of the sources of the first m pairs put into it, source i for vector i
unfoldable pub gathered_of : List ℕ → ℕ → (ℕ → Source) → ℕ → List (List ℕ) → List (List ℕ)
gathered_of bytes lanes source zero pairs = pairs
gathered_of bytes lanes source (suc m) pairs =
    paired_up (gathered_of bytes lanes source m pairs) m bytes lanes (source (m * 2)) (source (m * 2 + 1))

-- the zeros and the sums of the first pairs, of which there are at most eight, stand in their places
pub record Paired (count : ℕ) (pairs : List (List ℕ)) : Type 0 where
  pub few : count ≤ 8
  pub zeros : (j v : ℕ) → j < count → v < 64 → get_or (get_or pairs (j * 2) []) v 0 ≡ 0
  pub sums : (j v : ℕ) → j < count → v < 64
      → get_or (get_or pairs (j * 2 + 17) []) v 0 ≡ get_or (get_or pairs (j * 2 + 1) []) v 0 ⊕ get_or (get_or pairs (j * 2 + 16) []) v 0
