-- The rows of the spread form are polynomials: row i, at position j, is the value at j of a polynomial of k coefficients.
use mathlib.Core.Path.{◌≡◌, refl, sym, ap, ap₂, ◌∙◌}
use mathlib.Core.List.{List, [], ◌∷◌}
use Prim.Native.Nat.{ℕ, zero, suc, ◌-◌, ◌<◌}
use native.Mathlib.Nat.{le_step, lt-suc_self}
use native.Mathlib.Numerals.{add-one}
use native.Mathlib.Omega.{arith}
use lib.Dec.{lit<}
use lib.ListN.{length}
use Rattle.galois.specs.Narrow.{◌⊞◌, narrow_quotient}
use Rattle.galois.specs.Byte.{Bytes, ◌⊕◌, ◌⊗◌, widen}
use Rattle.galois.proofs.Xor.{plus_zero, zero_plus}
use Rattle.galois.proofs.ByteProduct.{times_comm, times_assoc, times_zero}
use Rattle.galois.proofs.Field.{quotient_below}
use Rattle.galois.proofs.NarrowField.{narrows, narrow_plus}
use Rattle.galois.proofs.Extension.{widen_narrow, widen_times}
use Rattle.code.specs.declared.settings.Settings.{Settings}
use Rattle.code.specs.Settings.{delay_of, k_of}
use Rattle.code.specs.Matrix.{point, factor, product, spread}
use Rattle.code.proofs.Shape.{Shape}
use Rattle.code.proofs.Rows.{factor_once, factor_narrow, point_le, product_narrow}
use Rattle.repair.specs.Polynomial.{value}
use Rattle.repair.proofs.Polynomials.{scale, value_scale, length-scale, bytes_scale, linear, value_linear, length-linear}

-- ---- the product over zero points, as a polynomial

-- the product over the first m zero points p of (x + p) divided by (i + p)
unfoldable pub coefficients : ℕ → ℕ → ℕ → List ℕ
coefficients N i zero = 1 ∷ []
coefficients N i (suc m) =
    scale (narrow_quotient 1 (i ⊞ point N i m)) (linear (point N i m) 0 (coefficients N i m))

-- one coefficient more than zero points
pub length-coefficients : (N i m : ℕ) → length (coefficients N i m) ≡ suc m
unfolding coefficients
length-coefficients N i zero = refl
length-coefficients N i (suc m) =
    length-scale _ (linear (point N i m) 0 (coefficients N i m)) ∙ length-linear (point N i m) 0 (coefficients N i m)
    ∙ ap suc (length-coefficients N i m)

-- they are bytes
pub bytes_coefficients : (N i m : ℕ) → Bytes (coefficients N i m)
unfolding coefficients
bytes_coefficients N i zero = (lit< tt, tt)
bytes_coefficients N i (suc m) = bytes_scale _ (linear (point N i m) 0 (coefficients N i m))

-- a factor, widened, is (j + p) times 1 divided by (i + p)
widen_factor : (i j p : ℕ) → i < 16 → j < 16 → p < 16 → widen (factor i j p) ≡ (j ⊕ p) ⊗ narrow_quotient 1 (i ⊞ p)
widen_factor i j p hi hj hp =
    let jp : j ⊞ p < 16 = narrows.plus_below j p hj hp in
    let by : narrow_quotient 1 (i ⊞ p) < 16 = quotient_below narrows 1 (i ⊞ p) (lit< tt) (narrows.plus_below i p hi hp) in
    ap widen (sym (factor_once i j p)) ∙ widen_times (j ⊞ p) (narrow_quotient 1 (i ⊞ p)) jp by
    ∙ ap₂ ◌⊗◌ (widen_narrow (j ⊞ p) jp ∙ narrow_plus j p hj hp) (widen_narrow (narrow_quotient 1 (i ⊞ p)) by)

-- c (x w) = w (x c)
times_turn : (c x w : ℕ) → c ⊗ (x ⊗ w) ≡ w ⊗ (x ⊗ c)
times_turn c x w =
    times_comm c (x ⊗ w) ∙ ap (λ (t : ℕ). t ⊗ c) (times_comm x w) ∙ times_assoc w x c

-- its value at j is the product at position j
pub value_coefficients : (N i j m : ℕ) → i < 16 → j < 16 → ((q : ℕ) → q < m → point N i q < 16)
    → value (coefficients N i m) j ≡ widen (product N i j m)
unfolding coefficients value product
value_coefficients N i j zero hi hj hp =
    ap (λ (t : ℕ). 1 ⊕ t) (times_zero j) ∙ plus_zero 1 ∙ sym (widen_narrow 1 (lit< tt))
value_coefficients N i j (suc m) hi hj hp =
    let p : ℕ = point N i m in
    let c : ℕ = narrow_quotient 1 (i ⊞ p) in
    let w : ℕ = widen (product N i j m) in
    value_scale c (linear p 0 (coefficients N i m)) j
    ∙ ap (λ (t : ℕ). c ⊗ t)
    (value_linear p 0 (coefficients N i m) j ∙ zero_plus ((j ⊕ p) ⊗ value (coefficients N i m) j)
    ∙ ap (λ (t : ℕ). (j ⊕ p) ⊗ t) (value_coefficients N i j m hi hj (λ q hq. hp q (le_step hq))))
    ∙ times_turn c (j ⊕ p) w
    ∙ ap (λ (t : ℕ). w ⊗ t) (sym (widen_factor i j p hi hj (hp m (lt-suc_self m))))
    ∙ sym (widen_times (product N i j m) (factor i j p) (product_narrow N i j m) (factor_narrow i j p))

-- ---- row i of the spread form

-- the polynomial of row i
unfoldable pub row_polynomial : Settings → ℕ → List ℕ
row_polynomial s i = coefficients s.scattered i (delay_of s - s.scattered)

-- it has k coefficients
pub length-row : (s : Settings) (i : ℕ) → length (row_polynomial s i) ≡ k_of s
unfolding row_polynomial k_of
length-row s i = length-coefficients s.scattered i (delay_of s - s.scattered) ∙ sym (add-one (delay_of s - s.scattered))

-- they are bytes
pub bytes_row : (s : Settings) (i : ℕ) → Bytes (row_polynomial s i)
unfolding row_polynomial
bytes_row s i = bytes_coefficients s.scattered i (delay_of s - s.scattered)

module _ (s : Settings) (h : Shape s) where
  -- its value at j is row i of the spread form at position j
  pub row_polynomial_lem : (i : ℕ) → i < k_of s → (j : ℕ) → j < 16 → value (row_polynomial s i) j ≡ widen (spread s i j)
  unfolding row_polynomial spread
  row_polynomial_lem i hi j hj =
      value_coefficients s.scattered i j (delay_of s - s.scattered) (omega arith) hj
      (λ q hq. omega (arith, point_le s.scattered i q))
