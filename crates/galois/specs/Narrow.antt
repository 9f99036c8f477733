-- Document 01, "Two fields": the narrow numbers, 0 to 15, are polynomials over two elements, taken modulo z^4 + z + 1.
-- Bit i of a narrow number is the coefficient of z^i.
use Rattle.std.specs.Prelude.{cond, ◌&&◌, List, [], ◌∷◌, ℕ, zero, suc, ◌*◌, ◌/◌, ◌%◌, eqb, ltb, get_or}
use Rattle.std.specs.Int.Bits.{bit_xor}
use Rattle.galois.specs.Reciprocal.{Reciprocal, none, element, divided_by}

infixl 60 ◌⊞◌
infixl 70 ◌⊠◌
-- a narrow operation handed a number above 15 gives 0
unfoldable pub narrow : ℕ → ℕ → ℕ → ℕ
narrow a b r = cond (ltb a 16 && ltb b 16) r 0

-- the sum of narrow numbers: exclusive or
unfoldable pub ◌⊞◌ : ℕ → ℕ → ℕ
a ⊞ b = narrow a b (bit_xor a b)

-- a times z, modulo z^4 + z + 1, which is the number 19
unfoldable pub times_z : ℕ → ℕ
times_z a = cond (ltb (2 * a) 16) (2 * a) (bit_xor (2 * a) 19)

-- a times the polynomial of b's m lowest bits
unfoldable pub times_bits : ℕ → ℕ → ℕ → ℕ
times_bits zero a b = 0
times_bits (suc m) a b = bit_xor (cond (eqb (b % 2) 1) a 0) (times_bits m (times_z a) (b / 2))

-- the product of narrow numbers
unfoldable pub ◌⊠◌ : ℕ → ℕ → ℕ
a ⊠ b = narrow a b (times_bits 4 a b)

-- the reciprocals of 1 to 15, as the document lists them
unfoldable pub narrow_reciprocals : List ℕ
narrow_reciprocals = 1 ∷ 9 ∷ 14 ∷ 13 ∷ 11 ∷ 7 ∷ 6 ∷ 15 ∷ 2 ∷ 12 ∷ 5 ∷ 10 ∷ 4 ∷ 3 ∷ 8 ∷ []

-- the reciprocal of a narrow number: none for 0, and for a number above 15
unfoldable pub narrow_reciprocal : ℕ → Reciprocal
narrow_reciprocal zero = none
narrow_reciprocal (suc a) = cond (ltb (suc a) 16) (element (get_or narrow_reciprocals a 0)) none

-- a divided by b: 0 where b has no reciprocal
unfoldable pub narrow_quotient : ℕ → ℕ → ℕ
narrow_quotient a b = divided_by ◌⊠◌ a (narrow_reciprocal b)
