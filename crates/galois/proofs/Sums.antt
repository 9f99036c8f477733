-- The laws of finite sums of bytes.
use mathlib.Core.Path.{◌≡◌, refl, sym, ap, ap₂, ◌∙◌, subst}
use mathlib.Core.Logic.{◌≢◌, ⊎_elim}
use Prim.Native.Nat.{ℕ, zero, suc, ◌+◌, ◌^◌, ◌<◌}
use native.Mathlib.Nat.{add-zero, add-suc, eq-or-lt_of_le, le_of_suc-le-suc, le_step, lt_irrefl, lt-suc_self, not-suc-le-zero}
use lib.Pow.{pow_pos}
use Rattle.galois.specs.Byte.{◌⊕◌, ◌⊗◌}
use Rattle.galois.specs.Sum.{sum}
use Rattle.galois.proofs.ByteProduct.{distributes, distributes_left, times_assoc, zero_times}
use Rattle.galois.proofs.Xor.{plus_assoc, plus_zero, zero_plus, plus_self, plus_exchange, plus_below, Additive, additive_zero}

-- ---- term by term

pub sum-equal : (m : ℕ) (f g : ℕ → ℕ) → ((i : ℕ) → i < m → f i ≡ g i) → sum m f ≡ sum m g
unfolding sum
sum-equal zero f g e = refl
sum-equal (suc m) f g e = ap₂ ◌⊕◌ (sum-equal m f g (λ i h. e i (le_step h))) (e m (lt-suc_self m))

pub sum_zeros : (m : ℕ) (f : ℕ → ℕ) → ((i : ℕ) → i < m → f i ≡ 0) → sum m f ≡ 0
unfolding sum
sum_zeros zero f e = refl
sum_zeros (suc m) f e = ap₂ ◌⊕◌ (sum_zeros m f (λ i h. e i (le_step h))) (e m (lt-suc_self m)) ∙ plus_self 0

-- a sum with one term that is not 0
pub sum_single : (m i : ℕ) (f : ℕ → ℕ) → i < m → ((j : ℕ) → j < m → j ≢ i → f j ≡ 0) → sum m f ≡ f i
unfolding sum
sum_single zero i f h e = absurd (not-suc-le-zero h)
sum_single (suc m) i f h e =
    ⊎_elim
    (λ same.
    ap (λ (s : ℕ). s ⊕ f m)
    (sum_zeros m f (λ j l. e j (le_step l) (λ at. lt_irrefl m (subst (λ (k : ℕ). k < m) (at ∙ same) l))))
    ∙ zero_plus (f m) ∙ ap f (sym same))
    (λ below.
    ap₂ ◌⊕◌ (sum_single m i f below (λ j l. e j (le_step l)))
    (e m (lt-suc_self m) (λ at. lt_irrefl m (subst (λ (k : ℕ). k < m) (sym at) below)))
    ∙ plus_zero (f i))
    (eq-or-lt_of_le (le_of_suc-le-suc h))

-- the sum of numbers of k bits has k bits
pub sum_below : (k m : ℕ) (f : ℕ → ℕ) → ((i : ℕ) → i < m → f i < 2 ^ k) → sum m f < 2 ^ k
unfolding sum
sum_below k zero f b = pow_pos k
sum_below k (suc m) f b = plus_below k (sum m f) (f m) (sum_below k m f (λ i h. b i (le_step h))) (b m (lt-suc_self m))

-- ---- sums of sums

pub sum_plus : (m : ℕ) (f g : ℕ → ℕ) → sum m (λ i. f i ⊕ g i) ≡ sum m f ⊕ sum m g
unfolding sum
sum_plus zero f g = sym (plus_self 0)
sum_plus (suc m) f g = ap (λ (s : ℕ). s ⊕ (f m ⊕ g m)) (sum_plus m f g) ∙ plus_exchange (sum m f) (sum m g) (f m) (g m)

pub sum-split : (m n : ℕ) (f : ℕ → ℕ) → sum (m + n) f ≡ sum m f ⊕ sum n (λ i. f (m + i))
unfolding sum
sum-split m zero f = ap (λ (k : ℕ). sum k f) (add-zero m) ∙ sym (plus_zero (sum m f))
sum-split m (suc n) f =
    ap (λ (k : ℕ). sum k f) (add-suc m n)
    ∙ ap (λ (s : ℕ). s ⊕ f (m + n)) (sum-split m n f)
    ∙ plus_assoc (sum m f) (sum n (λ i. f (m + i))) (f (m + n))

pub sum_exchange : (m n : ℕ) (f : ℕ → ℕ → ℕ) → sum m (λ i. sum n (λ j. f i j)) ≡ sum n (λ j. sum m (λ i. f i j))
unfolding sum
sum_exchange zero n f = sym (sum_zeros n (λ j. 0) (λ j h. refl))
sum_exchange (suc m) n f =
    ap (λ (s : ℕ). s ⊕ sum n (f m)) (sum_exchange m n f) ∙ sym (sum_plus n (λ j. sum m (λ i. f i j)) (f m))

-- ---- an additive function of a sum, and a multiple of one

pub additive_of_sum : (g : ℕ → ℕ) → Additive g → (m : ℕ) (f : ℕ → ℕ) → g (sum m f) ≡ sum m (λ i. g (f i))
unfolding sum
additive_of_sum g add zero f = additive_zero g add
additive_of_sum g add (suc m) f = add (sum m f) (f m) ∙ ap (λ (s : ℕ). s ⊕ g (f m)) (additive_of_sum g add m f)

pub multiple_of_sum : (x m : ℕ) (f : ℕ → ℕ) → x ⊗ sum m f ≡ sum m (λ i. x ⊗ f i)
multiple_of_sum x = additive_of_sum (λ y. x ⊗ y) (distributes x)

pub sum_times : (m : ℕ) (f : ℕ → ℕ) (x : ℕ) → sum m f ⊗ x ≡ sum m (λ i. f i ⊗ x)
sum_times m f x = additive_of_sum (λ y. y ⊗ x) (distributes_left x) m f

-- ---- weighted sums: the terms g, each by its weight

module _ (m : ℕ) (g : ℕ → ℕ) where
  -- they add with their weights
  pub weights_plus : (u v : ℕ → ℕ) → sum m (λ i. (u i ⊕ v i) ⊗ g i) ≡ sum m (λ i. u i ⊗ g i) ⊕ sum m (λ i. v i ⊗ g i)
  weights_plus u v =
      sum-equal m (λ i. (u i ⊕ v i) ⊗ g i) (λ i. u i ⊗ g i ⊕ v i ⊗ g i) (λ i _. distributes_left (g i) (u i) (v i))
      ∙ sum_plus m (λ i. u i ⊗ g i) (λ i. v i ⊗ g i)

  -- and scale with them
  pub weights_times : (c : ℕ) (u : ℕ → ℕ) → sum m (λ i. (c ⊗ u i) ⊗ g i) ≡ c ⊗ sum m (λ i. u i ⊗ g i)
  weights_times c u =
      sum-equal m (λ i. (c ⊗ u i) ⊗ g i) (λ i. c ⊗ (u i ⊗ g i)) (λ i _. times_assoc c (u i) (g i))
      ∙ sym (multiple_of_sum c m (λ i. u i ⊗ g i))

  -- equal weights make equal sums
  pub weights_equal : (u v : ℕ → ℕ) → ((i : ℕ) → i < m → u i ≡ v i) → sum m (λ i. u i ⊗ g i) ≡ sum m (λ i. v i ⊗ g i)
  weights_equal u v e = sum-equal m (λ i. u i ⊗ g i) (λ i. v i ⊗ g i) (λ i h. ap (λ (x : ℕ). x ⊗ g i) (e i h))

  -- and weights that are 0 make 0
  pub weights_zeros : (u : ℕ → ℕ) → ((i : ℕ) → i < m → u i ≡ 0) → sum m (λ i. u i ⊗ g i) ≡ 0
  weights_zeros u e = sum_zeros m (λ i. u i ⊗ g i) (λ i h. ap (λ (x : ℕ). x ⊗ g i) (e i h) ∙ zero_times (g i))
