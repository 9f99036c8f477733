-- The polynomial of row i is the only one of at most k coefficients that is 0 at the row's zero points, and 1 at i.
use mathlib.Core.Path.{◌≡◌, sym, ap, ap₂, ◌∙◌, subst⁻¹}
use mathlib.Core.Bool.{Bool}
use mathlib.Core.Logic.{⊎_elim}
use mathlib.Core.List.{List}
use Prim.Native.Nat.{ℕ, suc, ◌+◌, ◌-◌, ◌≤◌, ◌<◌}
use native.Mathlib.Nat.{eq-or-lt_of_le, le_of_suc-le-suc}
use native.Mathlib.Omega.{arith}
use lib.Dec.{T, eqb, eqb_refl, lit<}
use lib.ListN.{length}
use Rattle.galois.specs.Bounded.{count}
use Rattle.galois.specs.Byte.{Bytes, ◌⊕◌, widen}
use Rattle.galois.proofs.Xor.{plus_self, plus_cancel}
use Rattle.galois.proofs.Extension.{widen_narrow}
use Rattle.galois.proofs.Counting.{count_split, count_all}
use Rattle.code.specs.declared.settings.Settings.{Settings}
use Rattle.code.specs.Settings.{delay_of, k_of}
use Rattle.code.specs.Matrix.{spread}
use Rattle.code.proofs.Shape.{Shape}
use Rattle.code.proofs.Rows.{spread_zero_low, spread_zero_high, spread_one}
use Rattle.repair.specs.Polynomial.{value}
use Rattle.repair.proofs.Polynomials.{add, value_add, length_add_le, bytes_add}
use Rattle.repair.proofs.Roots.{roots}
use Rattle.repair.proofs.RowPolynomials.{row_polynomial, length-row, bytes_row, row_polynomial_lem}

-- a test that passes at 0 to i, and from i + N up to t, passes at t - N + 1 numbers below t
count_points : (N i t : ℕ) (z : ℕ → Bool) → 1 ≤ N → i + N ≤ t → ((j : ℕ) → j < suc i → T (z j))
    → ((j : ℕ) → i + N ≤ j → j < t → T (z j)) → t + 1 ≤ N + count t z
count_points N i t z h_n ht low high =
    let outer : t ≡ i + N + (t - (i + N)) = omega arith in
    let inner : i + N ≡ suc i + (N - 1) = omega arith in
    omega (
      arith,
      ap (λ (m : ℕ). count m z) outer,
      ap (λ (m : ℕ). count m z) inner,
      count_split (i + N) (t - (i + N)) z,
      count_split (suc i) (N - 1) z,
      count_all (suc i) z low,
      count_all (t - (i + N)) (λ j. z (i + N + j)) (λ j hj. high (i + N + j) (omega arith) (omega arith)),
    )

module _ (s : Settings) (h : Shape s) (i : ℕ) (hi : i < k_of s) (f : List ℕ) where
  -- where f is x and the spread form is x, their difference is 0
  difference_zero : (j x : ℕ) → j < 16 → value f j ≡ x → widen (spread s i j) ≡ x → T (eqb (value (add f (row_polynomial s i)) j) 0)
  difference_zero j x hj ef er =
      subst⁻¹ (λ (v : ℕ). T (eqb v 0))
      (value_add f (row_polynomial s i) j ∙ ap₂ ◌⊕◌ ef (row_polynomial_lem s h i hi j hj ∙ er) ∙ plus_self x)
      (eqb_refl 0)

  -- a polynomial of k coefficients that is 0 at the zero points of row i, and 1 at i, is row i
  pub row_unique : Bytes f → length f ≤ k_of s → ((j : ℕ) → j < i → value f j ≡ 0)
      → ((j : ℕ) → i + s.scattered ≤ j → j < delay_of s → value f j ≡ 0) → value f i ≡ 1
      → (j : ℕ) → j < 16 → value f j ≡ widen (spread s i j)
  row_unique b hf low high one j hj =
      let g : List ℕ = add f (row_polynomial s i) in
      let zeros : delay_of s + 1 ≤ s.scattered + count (delay_of s) (λ p. eqb (value g p) 0) =
      count_points s.scattered i (delay_of s) (λ p. eqb (value g p) 0) (omega arith) (omega arith)
      (λ j hj.
      ⊎_elim
      (λ same. difference_zero j 1 (omega arith) (ap (value f) same ∙ one)
      (ap widen (ap (spread s i) same ∙ spread_one s h i hi) ∙ widen_narrow 1 (lit< tt)))
      (λ below. difference_zero j 0 (omega arith) (low j below)
      (ap widen (spread_zero_low s i j hi below) ∙ widen_narrow 0 (lit< tt)))
      (eq-or-lt_of_le (le_of_suc-le-suc hj)))
      (λ j from to. difference_zero j 0 (omega arith) (high j from to)
      (ap widen (spread_zero_high s i j from to) ∙ widen_narrow 0 (lit< tt)))
      in
      let few : length g ≤ k_of s = length_add_le f (row_polynomial s i) (k_of s) hf (omega (arith, length-row s i)) in
      plus_cancel (value f j) (widen (spread s i j))
      (ap (λ (t : ℕ). value f j ⊕ t) (sym (row_polynomial_lem s h i hi j hj)) ∙ sym (value_add f (row_polynomial s i) j)
      ∙ roots (delay_of s) g (bytes_add f (row_polynomial s i) b (bytes_row s i)) (omega arith) (omega arith) j (omega arith))
