-- The word of a choice of the first k symbols: its multipliers, that it begins with that choice, and that it is the only one.
use mathlib.Core.Path.{◌≡◌, refl, sym, ap, ap₂, ◌∙◌, subst⁻¹}
use mathlib.Core.Bool.{Bool, true, false}
use mathlib.Core.Logic.{⊎_elim}
use mathlib.Core.List.{List, [], ◌∷◌, ◌++◌}
use Prim.Native.Nat.{ℕ, zero, suc, ◌≤◌, ◌<◌}
use native.Mathlib.Nat.{eq-or-lt_of_le, le_of_suc-le-suc, le_of_lt, le_step, lt-suc_self, lt_of_lt_of_le}
use native.Mathlib.Numerals.{add-one}
use native.Mathlib.Omega.{arith}
use lib.Dec.{ltb, lit<}
use lib.ListN.{length, get_or, length-append, get_or-append, get_or-eq_default}
use lib.Seq.{get_or_at}
use borrow.Author.Tests.{ltb-true, ltb-false}
use Rattle.galois.specs.Byte.{◌⊕◌, ◌⊗◌}
use Rattle.galois.specs.Sum.{sum}
use Rattle.galois.proofs.Xor.{plus_below, plus_comm, plus_assoc, zero_plus, plus_self}
use Rattle.galois.proofs.ByteProduct.{times_below}
use Rattle.galois.proofs.Sums.{sum-equal, sum_below}
use Rattle.code.specs.declared.settings.Settings.{Settings}
use Rattle.code.specs.Settings.{k_of}
use Rattle.code.specs.Matrix.{entry}
use Rattle.code.specs.Word.{word_at, multipliers, symbol}
use Rattle.code.proofs.Shape.{Shape}
use Rattle.code.proofs.Words.{word_at_below, word_triangular, word_equal}

module _ (s : Settings) (x : ℕ → ℕ) where
  -- ---- the multipliers

  -- there are m of them
  pub length-multipliers : (m : ℕ) → length (multipliers s x m) ≡ m
  unfolding multipliers
  length-multipliers zero = refl
  length-multipliers (suc m) = length-append (multipliers s x m) _ ∙ add-one _ ∙ ap suc (length-multipliers m)

  -- the last of m + 1 multipliers
  multiplier_last : (m : ℕ)
      → get_or (multipliers s x (suc m)) m 0 ≡ x m ⊕ sum m (λ r. get_or (multipliers s x m) r 0 ⊗ entry s r m)
  unfolding multipliers
  multiplier_last m = get_or_at (multipliers s x m) _ [] 0 m (length-multipliers m)

  -- one more multiplier leaves those before it
  multiplier_before : (m r : ℕ) → r < m → get_or (multipliers s x (suc m)) r 0 ≡ get_or (multipliers s x m) r 0
  unfolding multipliers
  multiplier_before m r h =
      get_or-append (multipliers s x m) _ 0 r (subst⁻¹ (λ (k : ℕ). r < k) (length-multipliers m) h)

  -- and so do any number more
  pub multiplier_stays : (n m r : ℕ) → m ≤ n → r < m → get_or (multipliers s x n) r 0 ≡ get_or (multipliers s x m) r 0
  multiplier_stays zero m r h hr = omega arith
  multiplier_stays (suc n) m r h hr =
      ⊎_elim (λ same. ap (λ (k : ℕ). get_or (multipliers s x k) r 0) (sym same))
      (λ below.
      multiplier_before n r (lt_of_lt_of_le hr (le_of_suc-le-suc below))
      ∙ multiplier_stays n m r (le_of_suc-le-suc below) hr)
      (eq-or-lt_of_le h)

  -- each multiplier is its symbol, less what the rows above give at its position
  pub multiplier_step : (m r : ℕ) → r < m
      → get_or (multipliers s x m) r 0 ≡ x r ⊕ sum r (λ q. get_or (multipliers s x m) q 0 ⊗ entry s q r)
  multiplier_step m r h =
      multiplier_stays m (suc r) r h (lt-suc_self r) ∙ multiplier_last r
      ∙ ap (λ (t : ℕ). x r ⊕ t)
      (sum-equal r (λ q. get_or (multipliers s x r) q 0 ⊗ entry s q r) (λ q. get_or (multipliers s x m) q 0 ⊗ entry s q r)
      (λ q hq. ap (λ (t : ℕ). t ⊗ entry s q r) (sym (multiplier_stays m r q (le_of_lt h) hq))))

  -- the multipliers of bytes are bytes
  pub multiplier_below : ((m : ℕ) → x m < 256) → (m r : ℕ) → get_or (multipliers s x m) r 0 < 256
  multiplier_below b m r = go (ltb r m) refl
    where
      go : (t : Bool) → ltb r m ≡ t → get_or (multipliers s x m) r 0 < 256
      go true e =
          subst⁻¹ (λ (y : ℕ). y < 256) (multiplier_step m r (ltb-true r m e))
          (plus_below 8 (x r) (sum r (λ q. get_or (multipliers s x m) q 0 ⊗ entry s q r)) (b r)
          (sum_below 8 r (λ q. get_or (multipliers s x m) q 0 ⊗ entry s q r)
          (λ q _. times_below (get_or (multipliers s x m) q 0) (entry s q r))))
      go false e =
          subst⁻¹ (λ (y : ℕ). y < 256)
          (get_or-eq_default (multipliers s x m) 0
          (subst⁻¹ (λ (k : ℕ). k ≤ r) (length-multipliers m) (ltb-false r m e)))
          (lit< tt)

-- ---- the word

-- a symbol is a byte
pub symbol_below : (s : Settings) (x : ℕ → ℕ) (p : ℕ) → symbol s x p < 256
unfolding symbol
symbol_below s x p = word_at_below s (λ r. get_or (multipliers s x (k_of s)) r 0) p

-- the first m multipliers read only the first m symbols
multipliers_equal : (s : Settings) (x y : ℕ → ℕ) (m : ℕ) → ((r : ℕ) → r < m → x r ≡ y r) → multipliers s x m ≡ multipliers s y m
unfolding multipliers
multipliers_equal s x y zero e = refl
multipliers_equal s x y (suc m) e =
    ap₂ (λ (u : List ℕ) (a : ℕ). u ++ ((a ⊕ sum m (λ r. get_or u r 0 ⊗ entry s r m)) ∷ []))
    (multipliers_equal s x y m (λ r h. e r (le_step h))) (e m (lt-suc_self m))

-- choices of symbols that are equal below k have the same word
pub symbol_equal : (s : Settings) (x y : ℕ → ℕ) → ((r : ℕ) → r < k_of s → x r ≡ y r) → (p : ℕ) → symbol s x p ≡ symbol s y p
unfolding symbol
symbol_equal s x y e p = ap (λ (u : List ℕ). word_at s (λ r. get_or u r 0) p) (multipliers_equal s x y (k_of s) e)

-- settings with the same G have the same words
module _ (s other : Settings) (same : (r p : ℕ) → entry s r p ≡ entry other r p) where
  multipliers_same : (x : ℕ → ℕ) (m : ℕ) → multipliers s x m ≡ multipliers other x m
  unfolding multipliers
  multipliers_same x zero = refl
  multipliers_same x (suc m) =
      ap₂ (λ (u : List ℕ) (g : ℕ → ℕ). u ++ ((x m ⊕ sum m (λ r. get_or u r 0 ⊗ g r)) ∷ [])) (multipliers_same x m) (λ i r. same r m i)

  pub symbol_same : k_of s ≡ k_of other → (x : ℕ → ℕ) (p : ℕ) → symbol s x p ≡ symbol other x p
  unfolding symbol word_at
  symbol_same sources x p =
      ap₂ (λ (u : List ℕ) (g : ℕ → ℕ). sum (k_of s) (λ r. get_or u r 0 ⊗ g r)) (multipliers_same x (k_of s)) (λ i r. same r p i)
      ∙ ap (λ (k : ℕ). sum k (λ r. get_or (multipliers other x k) r 0 ⊗ entry other r p)) sources

module _ (s : Settings) (h : Shape s) where
  -- existence: the word begins with the choice of its first k symbols
  pub symbol_source : (x : ℕ → ℕ) → ((m : ℕ) → x m < 256) → (p : ℕ) → p < k_of s → symbol s x p ≡ x p
  unfolding symbol
  symbol_source x b p hp =
      let u : ℕ → ℕ = λ r. get_or (multipliers s x (k_of s)) r 0 in
      let above : ℕ = sum p (λ r. u r ⊗ entry s r p) in
      word_triangular s h u (multiplier_below s x b (k_of s)) p hp
      ∙ ap (λ (y : ℕ). above ⊕ y) (multiplier_step s x (k_of s) p hp ∙ plus_comm (x p) above)
      ∙ sym (plus_assoc above above (x p)) ∙ ap (λ (y : ℕ). y ⊕ x p) (plus_self above) ∙ zero_plus (x p)

  -- uniqueness: a word is the word of its own first k symbols
  pub symbol_of_word : (u : ℕ → ℕ) → ((r : ℕ) → u r < 256) → (p : ℕ) → symbol s (word_at s u) p ≡ word_at s u p
  unfolding symbol
  symbol_of_word u b p =
      word_equal s h (λ r. get_or (multipliers s (word_at s u) (k_of s)) r 0) u
      (multiplier_below s (word_at s u) (word_at_below s u) (k_of s)) b (symbol_source (word_at s u) (word_at_below s u)) p
