-- Words over the spread form are polynomials of at most k coefficients: one that is 0 at k positions is 0 at all of them.
use mathlib.Core.Path.{◌≡◌, refl, sym, ap, ap₂, ◌∙◌}
use mathlib.Core.List.{List, []}
use Prim.Native.Nat.{ℕ, zero, suc, ◌≤◌, ◌<◌, zero-le}
use native.Mathlib.Nat.{le_of_lt, lt_of_lt_of_le}
use native.Mathlib.Omega.{arith}
use lib.Dec.{eqb}
use lib.ListN.{length}
use Rattle.galois.specs.Bounded.{count}
use Rattle.galois.specs.Byte.{Bytes, ◌⊕◌, ◌⊗◌, widen}
use Rattle.galois.specs.Sum.{sum}
use Rattle.galois.proofs.Counting.{count_equal}
use Rattle.code.specs.declared.settings.Settings.{Settings}
use Rattle.code.specs.Settings.{k_of}
use Rattle.code.specs.Matrix.{spread}
use Rattle.code.proofs.Shape.{Shape}
use Rattle.repair.specs.Polynomial.{value}
use Rattle.repair.proofs.Polynomials.{scale, value_scale, length-scale, bytes_scale, add, value_add, length_add_le, bytes_add}
use Rattle.repair.proofs.Roots.{roots}
use Rattle.repair.proofs.RowPolynomials.{row_polynomial, length-row, row_polynomial_lem}

-- the word of the multipliers u over the spread form, at position p
unfoldable pub spread_word : Settings → (ℕ → ℕ) → ℕ → ℕ
spread_word s u p = sum (k_of s) (λ r. u r ⊗ widen (spread s r p))

-- ---- its polynomial

-- the sum of the multiples of the first m rows' polynomials
unfoldable pub rows_polynomial : Settings → (ℕ → ℕ) → ℕ → List ℕ
rows_polynomial s u zero = []
rows_polynomial s u (suc m) = add (rows_polynomial s u m) (scale (u m) (row_polynomial s m))

-- it has at most k coefficients, which are bytes, and its value is the sum of those multiples
length-rows : (s : Settings) (u : ℕ → ℕ) (m : ℕ) → length (rows_polynomial s u m) ≤ k_of s
unfolding rows_polynomial
length-rows s u zero = zero-le
length-rows s u (suc m) =
    length_add_le (rows_polynomial s u m) (scale (u m) (row_polynomial s m)) (k_of s) (length-rows s u m)
    (omega (arith, length-scale (u m) (row_polynomial s m), length-row s m))

bytes_rows : (s : Settings) (u : ℕ → ℕ) (m : ℕ) → Bytes (rows_polynomial s u m)
unfolding rows_polynomial
bytes_rows s u zero = tt
bytes_rows s u (suc m) =
    bytes_add (rows_polynomial s u m) (scale (u m) (row_polynomial s m)) (bytes_rows s u m)
    (bytes_scale (u m) (row_polynomial s m))

value_rows : (s : Settings) → Shape s → (u : ℕ → ℕ) (m : ℕ) → m ≤ k_of s → (p : ℕ) → p < 16
    → value (rows_polynomial s u m) p ≡ sum m (λ r. u r ⊗ widen (spread s r p))
unfolding rows_polynomial value sum
value_rows s h u zero hm p hp = refl
value_rows s h u (suc m) hm p hp =
    value_add (rows_polynomial s u m) (scale (u m) (row_polynomial s m)) p
    ∙ ap₂ ◌⊕◌ (value_rows s h u m (le_of_lt hm) p hp)
    (value_scale (u m) (row_polynomial s m) p ∙ ap (λ (t : ℕ). u m ⊗ t) (row_polynomial_lem s h m hm p hp))

-- the polynomial of the word
unfoldable pub word_polynomial : Settings → (ℕ → ℕ) → List ℕ
word_polynomial s u = rows_polynomial s u (k_of s)

-- it has at most k coefficients
pub length-word : (s : Settings) (u : ℕ → ℕ) → length (word_polynomial s u) ≤ k_of s
unfolding word_polynomial
length-word s u = length-rows s u (k_of s)

-- they are bytes
pub bytes_word : (s : Settings) (u : ℕ → ℕ) → Bytes (word_polynomial s u)
unfolding word_polynomial
bytes_word s u = bytes_rows s u (k_of s)

module _ (s : Settings) (h : Shape s) (u : ℕ → ℕ) where
  -- its value at p is symbol p of the word
  pub spread_polynomial : (p : ℕ) → p < 16 → value (word_polynomial s u) p ≡ spread_word s u p
  unfolding word_polynomial spread_word
  spread_polynomial p hp = value_rows s h u (k_of s) (omega arith) p hp

  -- a word over the spread form that is 0 at k positions below m is 0 at all 16
  pub spread_roots : (m : ℕ) → m ≤ 16 → k_of s ≤ count m (λ p. eqb (spread_word s u p) 0)
      → (p : ℕ) → p < 16 → spread_word s u p ≡ 0
  spread_roots m hm zeros p hp =
      sym (spread_polynomial p hp)
      ∙ roots m (word_polynomial s u) (bytes_word s u) (omega arith)
      (omega (
        arith,
        length-word s u,
        count_equal m (λ p. eqb (value (word_polynomial s u) p) 0) (λ p. eqb (spread_word s u p) 0)
            (λ p hp. ap (λ (v : ℕ). eqb v 0) (spread_polynomial p (lt_of_lt_of_le hp hm))),
      ))
      p (omega arith)
