-- The halves of coefficients, two in a byte: that of vector 2j below that of vector 2j + 1.
use Rattle.std.specs.Prelude.{List, ℕ, zero, suc, ◌*◌, ◌/◌, ◌%◌, ◌^◌, ◌≤◌, get_or}
use Rattle.std.specs.Int.Bits.{bit_or}
use Rattle.galois.specs.Byte.{◌⊗◌}
use Rattle.galois.specs.Sum.{sum}
use Rattle.galois.specs.Table.{table}
use Rattle.gathering.specs.Pairs.{vector_of}

-- the half of vector i
unfoldable pub half_of : List ℕ → ℕ → ℕ
half_of halves i = get_or halves (i / 2) 0 / 16 ^ (i % 2) % 16

-- the sum of the vectors of the first pairs, each by its half
unfoldable pub halves_sum : List ℕ → List (List ℕ) → ℕ → List ℕ
halves_sum halves pairs count = table 64 (λ v. sum (count * 2) (λ i. half_of halves i ⊗ get_or (vector_of pairs i) v 0))

-- neither half of a byte is above that of another
abbrev pub Under : ℕ → ℕ → Type 0
Under x y = (x % 16 ≤ y % 16) × (x / 16 % 16 ≤ y / 16 % 16)

-- the bits that some of the first bytes has
unfoldable pub bits_of : List ℕ → ℕ → ℕ
bits_of halves zero = 0
bits_of halves (suc m) = bit_or (bits_of halves m) (get_or halves m 0)
