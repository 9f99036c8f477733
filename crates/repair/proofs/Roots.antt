-- Division of a polynomial by x + r, and the theorem on roots: a polynomial with as many zeros as coefficients is 0 everywhere.
use mathlib.Core.Path.{◌≡◌, refl, sym, ap, ◌∙◌, subst, subst⁻¹}
use mathlib.Core.Bool.{Bool, true, false, cond}
use mathlib.Core.List.{List, [], ◌∷◌}
use Prim.Native.Nat.{ℕ, zero, suc, ◌+◌, ◌-◌, ◌≤◌, ◌<◌}
use native.Mathlib.Nat.{le_of_lt, lt_irrefl, not-suc-le-zero}
use native.Mathlib.Omega.{arith}
use lib.Dec.{T, eqb, eqb→eq, eqb_refl}
use lib.ListN.{length}
use Rattle.galois.specs.Bounded.{count}
use Rattle.galois.specs.Byte.{Bytes, ◌⊕◌, ◌⊗◌}
use Rattle.galois.proofs.Xor.{plus_below, plus_assoc, plus_zero, zero_plus, plus_self, plus_cancel}
use Rattle.galois.proofs.ByteProduct.{times_zero}
use Rattle.galois.proofs.Field.{no_zero_divisors}
use Rattle.galois.proofs.ByteField.{bytes}
use Rattle.galois.proofs.Counting.{count_mono}
use Rattle.repair.specs.Polynomial.{value}
use Rattle.repair.proofs.Polynomials.{value_below, regroup}

-- ---- division by x + r

-- a number added twice is gone
plus_twice : (x y : ℕ) → (x ⊕ y) ⊕ y ≡ x
plus_twice x y = plus_assoc x y y ∙ ap (λ (s : ℕ). x ⊕ s) (plus_self y) ∙ plus_zero x

-- the quotient of f by x + r; the remainder is f's value at r
unfoldable pub quotient : ℕ → List ℕ → List ℕ
quotient r [] = []
quotient r (c ∷ []) = []
quotient r (c ∷ d ∷ cs) = value (d ∷ cs) r ∷ quotient r (d ∷ cs)

-- f is its remainder, and x + r times its quotient
pub value_divide : (r : ℕ) (f : List ℕ) (x : ℕ) → value f x ≡ value f r ⊕ (x ⊕ r) ⊗ value (quotient r f) x
unfolding value quotient
value_divide r [] x = sym (zero_plus ((x ⊕ r) ⊗ 0) ∙ times_zero (x ⊕ r))
value_divide r (c ∷ []) x =
    ap (λ (s : ℕ). c ⊕ s) (times_zero x ∙ sym (times_zero r))
    ∙ sym (ap (λ (s : ℕ). (c ⊕ r ⊗ 0) ⊕ s) (times_zero (x ⊕ r)) ∙ plus_zero (c ⊕ r ⊗ 0))
value_divide r (c ∷ d ∷ cs) x =
    let v : ℕ = value (d ∷ cs) r in
    let q : ℕ = value (quotient r (d ∷ cs)) x in
    ap (λ (s : ℕ). c ⊕ x ⊗ s) (value_divide r (d ∷ cs) x)
    ∙ ap (λ (s : ℕ). s ⊕ x ⊗ (v ⊕ (x ⊕ r) ⊗ q)) (sym (plus_twice c (r ⊗ v)))
    ∙ regroup x r (c ⊕ r ⊗ v) v q

-- so where r is a zero of f, x + r divides f
pub value_at_zero : (r : ℕ) (f : List ℕ) → value f r ≡ 0 → (x : ℕ) → value f x ≡ (x ⊕ r) ⊗ value (quotient r f) x
value_at_zero r f e x =
    value_divide r f x ∙ ap (λ (s : ℕ). s ⊕ (x ⊕ r) ⊗ value (quotient r f) x) e
    ∙ zero_plus ((x ⊕ r) ⊗ value (quotient r f) x)

-- one shorter than a list that is not empty
pub length-quotient : (r : ℕ) (f : List ℕ) → length (quotient r f) ≡ length f - 1
unfolding quotient
length-quotient r [] = refl
length-quotient r (c ∷ []) = refl
length-quotient r (c ∷ d ∷ cs) = omega (arith, length-quotient r (d ∷ cs))

-- its coefficients are bytes
pub bytes_quotient : (r : ℕ) (f : List ℕ) → Bytes f → Bytes (quotient r f)
unfolding quotient
bytes_quotient r [] b = tt
bytes_quotient r (c ∷ []) b = tt
bytes_quotient r (c ∷ d ∷ cs) b = (value_below (d ∷ cs) b.1 r, bytes_quotient r (d ∷ cs) b.1)

-- ---- the zeros

-- p is a zero of f
abbrev pub zero? : List ℕ → ℕ → Bool
zero? f p = eqb (value f p) 0

-- where m is a zero of f, each smaller zero of f is one of the quotient: there are no zero divisors
quotient_zero : (m : ℕ) (f : List ℕ) → Bytes f → m < 256 → value f m ≡ 0
    → (p : ℕ) → p < m → T (zero? f p) → T (zero? (quotient m f) p)
quotient_zero m f b hm e p hp t =
    subst⁻¹ (λ (v : ℕ). T (eqb v 0))
    (no_zero_divisors bytes (p ⊕ m) (value (quotient m f) p) (plus_below 8 p m (omega arith) hm)
    (value_below (quotient m f) (bytes_quotient m f b) p)
    (λ s. lt_irrefl m (subst (λ (k : ℕ). k < m) (plus_cancel p m s) hp))
    (sym (value_at_zero m f e p) ∙ eqb→eq (value f p) 0 t))
    (eqb_refl 0)

-- the theorem at m
abbrev Vanishes : ℕ → Type 0
Vanishes m =
    (f : List ℕ) → Bytes f → m ≤ 256 → length f ≤ count m (zero? f) → (x : ℕ) → x < 256 → value f x ≡ 0

-- from m to m + 1, by whether m is a zero of f
step : (m : ℕ) → Vanishes m → (f : List ℕ) → Bytes f → m < 256 → (t : Bool) → zero? f m ≡ t
    → length f ≤ count m (zero? f) + cond t 1 0 → (x : ℕ) → x < 256 → value f x ≡ 0
step m ih f b hm true e h x hx =
    let root : value f m ≡ 0 = eqb→eq (value f m) 0 (subst⁻¹ T e tt) in
    value_at_zero m f root x
    ∙ ap (λ (v : ℕ). (x ⊕ m) ⊗ v)
    (ih (quotient m f) (bytes_quotient m f b) (le_of_lt hm)
    (omega (arith, length-quotient m f, count_mono m (zero? f) (zero? (quotient m f)) (quotient_zero m f b hm root))) x hx)
    ∙ times_zero (x ⊕ m)
step m ih f b hm false e h x hx = ih f b (le_of_lt hm) (omega arith) x hx

-- a polynomial with at least as many zeros below m as it has coefficients is 0 at each byte
pub roots : (m : ℕ) (f : List ℕ) → Bytes f → m ≤ 256 → length f ≤ count m (λ p. eqb (value f p) 0)
    → (x : ℕ) → x < 256 → value f x ≡ 0
unfolding count value
roots zero [] b hm h x hx = refl
roots zero (c ∷ cs) b hm h x hx = absurd (not-suc-le-zero h)
roots (suc m) f b hm h x hx = step m (roots m) f b hm (zero? f m) refl h x hx
