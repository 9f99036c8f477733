-- A row's multiples by the digits of a byte in base 4; its product with any byte is a sum of four of them.
use Rattle.std.specs.Prelude.{List, [], ℕ, ◌+◌, ◌*◌, ◌/◌, ◌%◌, ◌^◌, get_or}
use Rattle.galois.specs.Byte.{◌⊕◌, ◌⊗◌}
use Rattle.galois.specs.Table.{table}

-- the multiples of a row in four quarters, one for each digit: entry 4t + d is d * 4^t times the row
unfoldable pub quarters_of : List ℕ → List (List ℕ)
quarters_of row = table 16 (λ e. table 16 (λ j. (e % 4 * 4 ^ (e / 4)) ⊗ get_or row j 0))

-- what the entries of the four digits of c, one of each quarter, add up to at place j
unfoldable pub digits_at : List (List ℕ) → ℕ → ℕ → ℕ
digits_at parts c j =
    get_or (get_or parts (c % 4) []) j 0 ⊕ get_or (get_or parts (4 + c / 4 % 4) []) j 0
    ⊕ get_or (get_or parts (8 + c / 16 % 4) []) j 0 ⊕ get_or (get_or parts (12 + c / 64 % 4) []) j 0

-- a row with the entries of the digits of c added, whatever the parts are; by the quarters of another row that is c times the other
unfoldable pub row_by : List ℕ → ℕ → List (List ℕ) → List ℕ
row_by row c parts = table 16 (λ j. get_or row j 0 ⊕ digits_at parts c j)
