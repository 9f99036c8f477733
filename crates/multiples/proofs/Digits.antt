-- The digits of a byte in base 4: the byte is their sum, each by its power of 4, so that a product is the sum of four multiples.
use mathlib.Core.Path.{◌≡◌, sym, ap, ap₂, ◌∙◌}
use mathlib.Core.List.{List, []}
use Prim.Native.Nat.{ℕ, ◌+◌, ◌*◌, ◌/◌, ◌%◌, ◌^◌, ◌<◌}
use native.Mathlib.Nat.{mod-lt, zero-lt-suc}
use native.Mathlib.Omega.{arith}
use lib.ListN.{get_or}
use Rattle.galois.specs.Bounded.{every}
use Rattle.galois.specs.Byte.{◌⊕◌, ◌⊗◌}
use Rattle.galois.specs.Table.{table}
use Rattle.galois.proofs.ByIndex.{get_or-table, table_equal}
use Rattle.galois.proofs.ByteProduct.{distributes_left, remainder_times}
use Rattle.galois.proofs.Cases.{equal}
use Rattle.multiples.specs.Quarters.{quarters_of, digits_at, row_by}

-- entry e of the quarters is this multiple of the row
unfoldable pub weight : ℕ → ℕ
weight e = e % 4 * 4 ^ (e / 4)

-- what the entries of the digits of c add up to
abbrev digits_of : ℕ → ℕ
digits_of c = weight (c % 4) ⊕ weight (4 + c / 4 % 4) ⊕ weight (8 + c / 16 % 4) ⊕ weight (12 + c / 64 % 4)

-- for a byte that is the byte
digits_sum : (c : ℕ) → c < 256 → digits_of c ≡ c
unfolding every weight ◌⊕◌
digits_sum = equal 256 digits_of (λ c. c) tt

-- and else its remainder by 256, which has the same digits
digits_remainder : (c : ℕ) → digits_of c ≡ c % 256
digits_remainder c =
    ap₂ ◌⊕◌
    (ap₂ ◌⊕◌
    (ap₂ ◌⊕◌ (ap (λ (d : ℕ). weight d) (omega arith)) (ap (λ (d : ℕ). weight (4 + d)) (omega arith)))
    (ap (λ (d : ℕ). weight (8 + d)) (omega arith)))
    (ap (λ (d : ℕ). weight (12 + d)) (omega arith))
    ∙ digits_sum (c % 256) (mod-lt c (zero-lt-suc 255))

-- so the four multiples of x add up to c times x
digits_times : (c x : ℕ)
    → weight (c % 4) ⊗ x ⊕ weight (4 + c / 4 % 4) ⊗ x ⊕ weight (8 + c / 16 % 4) ⊗ x ⊕ weight (12 + c / 64 % 4) ⊗ x ≡ c ⊗ x
digits_times c x =
    let a : ℕ = weight (c % 4) in
    let b : ℕ = weight (4 + c / 4 % 4) in
    let d : ℕ = weight (8 + c / 16 % 4) in
    let e : ℕ = weight (12 + c / 64 % 4) in
    sym
    (distributes_left x (a ⊕ b ⊕ d) e
    ∙ ap (λ (s : ℕ). s ⊕ e ⊗ x) (distributes_left x (a ⊕ b) d ∙ ap (λ (s : ℕ). s ⊕ d ⊗ x) (distributes_left x a b)))
    ∙ ap (λ (s : ℕ). s ⊗ x) (digits_remainder c)
    ∙ sym (remainder_times c x)

-- a byte of the quarters of a row
pub quarter_byte : (row : List ℕ) (e j : ℕ) → e < 16 → j < 16 → get_or (get_or (quarters_of row) e []) j 0 ≡ weight e ⊗ get_or row j 0
unfolding quarters_of weight
quarter_byte row e j he hj =
    ap (λ (l : List ℕ). get_or l j 0) (get_or-table 16 (λ e. table 16 (λ j. weight e ⊗ get_or row j 0)) e [] he)
    ∙ get_or-table 16 (λ j. weight e ⊗ get_or row j 0) j 0 hj

-- so the entries of the digits of c, at place j of the quarters of a row, add up to c times its byte
digits_quarters : (row : List ℕ) (c j : ℕ) → j < 16 → digits_at (quarters_of row) c j ≡ c ⊗ get_or row j 0
unfolding digits_at
digits_quarters row c j hj =
    let byte_at : (e : ℕ) → e < 16 → get_or (get_or (quarters_of row) e []) j 0 ≡ weight e ⊗ get_or row j 0 =
    λ e he. quarter_byte row e j he hj in
    ap₂ ◌⊕◌
    (ap₂ ◌⊕◌ (ap₂ ◌⊕◌ (byte_at (c % 4) (omega arith)) (byte_at (4 + c / 4 % 4) (omega arith))) (byte_at (8 + c / 16 % 4) (omega arith)))
    (byte_at (12 + c / 64 % 4) (omega arith))
    ∙ digits_times c (get_or row j 0)

-- and a row by the quarters of another is the row with c times the other added
pub row_by_quarters : (row other : List ℕ) (c : ℕ)
    → row_by row c (quarters_of other) ≡ table 16 (λ j. get_or row j 0 ⊕ c ⊗ get_or other j 0)
unfolding row_by
row_by_quarters row other c =
    table_equal 16 (λ j. get_or row j 0 ⊕ digits_at (quarters_of other) c j) (λ j. get_or row j 0 ⊕ c ⊗ get_or other j 0)
    (λ j hj. ap (λ (y : ℕ). get_or row j 0 ⊕ y) (digits_quarters other c j hj))
