-- Document 01, "Two fields": a byte 16h + l means hα + l, with narrow h and l, and α × α = α + 8.
use Rattle.std.specs.Prelude.{Bool, true, false, cond, List, [], ◌∷◌, ℕ, zero, suc, ◌+◌, ◌*◌, ◌/◌, ◌%◌, ◌<◌, eqb, ltb}
use Rattle.std.specs.Int.Bits.{bit_xor}
use Rattle.galois.specs.Reciprocal.{Reciprocal, none, element, divided_by, Listed}
use Rattle.galois.specs.Narrow.{◌⊞◌, ◌⊠◌}

-- a list of bytes: what a lent slice holds
abbrev pub Bytes : List ℕ → Type 0
Bytes [] = Unit {0}
Bytes (x ∷ l) = (x < 256) × Bytes l

infixl 60 ◌⊕◌
infixl 70 ◌⊗◌
-- the sum of bytes: exclusive or
unfoldable pub ◌⊕◌ : ℕ → ℕ → ℕ
x ⊕ y = bit_xor x y

-- the narrow h of the byte 16h + l
unfoldable pub high : ℕ → ℕ
high x = x / 16 % 16

-- the narrow l of the byte 16h + l
unfoldable pub low : ℕ → ℕ
low x = x % 16

-- the byte 16h + l
unfoldable pub byte : ℕ → ℕ → ℕ
byte h l = h * 16 + l

-- the byte 16, and the narrow number 8, of α × α = α + 8
unfoldable pub alpha : ℕ
alpha = 16

unfoldable pub eight : ℕ
eight = 8

-- the product of bytes: (hα + l)(gα + m) = hg(α + 8) + (hm + lg)α + lm
unfoldable pub ◌⊗◌ : ℕ → ℕ → ℕ
x ⊗ y =
    byte (high x ⊠ high y ⊞ (high x ⊠ low y ⊞ low x ⊠ high y)) (eight ⊠ (high x ⊠ high y) ⊞ low x ⊠ low y)

-- the first of the m numbers from a on that passes the test, or none
unfoldable pub first : (ℕ → Bool) → ℕ → ℕ → Reciprocal
first f a zero = none
first f a (suc m) = elim (f a) [ true ↦ element a | false ↦ first f (suc a) m ]

-- the reciprocal of a byte: the byte y with x ⊗ y = 1, or none
unfoldable pub reciprocal : ℕ → Reciprocal
reciprocal x = first (λ y. eqb (x ⊗ y) 1) 0 256

-- x divided by y: 0 where y has no reciprocal
unfoldable pub quotient : ℕ → ℕ → ℕ
quotient x y = divided_by ◌⊗◌ x (reciprocal y)

-- a table of the bytes' reciprocals
abbrev pub Reciprocals : List ℕ → Type 0
Reciprocals = Listed 256 reciprocal

-- a narrow number as a byte
unfoldable pub widen : ℕ → ℕ
widen a = cond (ltb a 16) a 0
