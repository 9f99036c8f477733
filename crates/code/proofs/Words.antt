-- Words: G's rows are the units' words, words add and scale, and their first k positions are triangular in the multipliers, and so
-- determine them.
use mathlib.Core.Path.{◌≡◌, refl, sym, ap, ap₂, ◌∙◌}
use mathlib.Core.Bool.{Bool, true, false, cond}
use mathlib.Core.Logic.{◌≢◌, ⊎_elim}
use Prim.Native.Nat.{ℕ, zero, suc, ◌+◌, ◌-◌, ◌≤◌, ◌<◌}
use native.Mathlib.Nat.{eq-or-lt_of_le, le_of_suc-le-suc, le_of_lt, le_step, lt-suc_self, not-suc-le-zero}
use native.Mathlib.Omega.{arith}
use lib.Dec.{eqb, lit<}
use borrow.Author.Tests.{eq-eqb, ne_eqb}
use Rattle.galois.specs.Byte.{◌⊕◌, ◌⊗◌}
use Rattle.galois.specs.Sum.{sum}
use Rattle.galois.proofs.Xor.{plus_below, plus_zero, zero_plus, plus_self, plus_cancel}
use Rattle.galois.proofs.ByteProduct.{times_below, times_comm, times_zero, zero_times, one_times}
use Rattle.galois.proofs.Sums.{sum_zeros, sum_single, sum_below, sum-split, weights_plus, weights_times, weights_equal, weights_zeros}
use Rattle.code.specs.declared.settings.Settings.{Settings}
use Rattle.code.specs.Settings.{k_of}
use Rattle.code.specs.Matrix.{entry}
use Rattle.code.specs.Word.{word_at, unit}
use Rattle.code.proofs.Shape.{Shape}
use Rattle.code.proofs.Entries.{entry_below, entry_zero_low, entry_one}

-- ---- units, and their words

pub unit_self : (i : ℕ) → unit i i ≡ 1
unfolding unit
unit_self i = rw (eq-eqb i i refl)

pub unit_other : (i m : ℕ) → m ≢ i → unit i m ≡ 0
unfolding unit
unit_other i m ne = rw (ne_eqb m i ne)

pub unit_below : (i m : ℕ) → unit i m < 256
unfolding unit
unit_below i m = go (eqb m i)
  where
    go : (b : Bool) → cond b 1 0 < 256
    go true = lit< tt
    go false = lit< tt

-- row i of G is the word of the i-th unit
pub word_of_unit : (s : Settings) (i : ℕ) → i < k_of s → (p : ℕ) → word_at s (unit i) p ≡ entry s i p
unfolding word_at
word_of_unit s i hi p =
    sum_single (k_of s) i (λ r. unit i r ⊗ entry s r p) hi
    (λ r hr ne. ap (λ (x : ℕ). x ⊗ entry s r p) (unit_other i r ne) ∙ zero_times (entry s r p))
    ∙ ap (λ (x : ℕ). x ⊗ entry s i p) (unit_self i) ∙ one_times (entry s i p) (entry_below s i p)

-- ---- words add and scale

module _ (s : Settings) where
  -- the word of a sum of multipliers is the sum of the words
  pub word_at_plus : (u v : ℕ → ℕ) (p : ℕ) → word_at s (λ r. u r ⊕ v r) p ≡ word_at s u p ⊕ word_at s v p
  unfolding word_at
  word_at_plus u v p = weights_plus (k_of s) (λ r. entry s r p) u v

  -- the word of a multiple of the multipliers is that multiple of the word
  pub word_at_times : (c : ℕ) (u : ℕ → ℕ) (p : ℕ) → word_at s (λ r. c ⊗ u r) p ≡ c ⊗ word_at s u p
  unfolding word_at
  word_at_times c u p = weights_times (k_of s) (λ r. entry s r p) c u

  -- multipliers that are equal below k make equal words
  pub word_at_equal : (u v : ℕ → ℕ) → ((r : ℕ) → r < k_of s → u r ≡ v r) → (p : ℕ) → word_at s u p ≡ word_at s v p
  unfolding word_at
  word_at_equal u v e p = weights_equal (k_of s) (λ r. entry s r p) u v e

  -- multipliers that are 0 below k make the word 0
  pub word_at_zeros : (u : ℕ → ℕ) → ((r : ℕ) → r < k_of s → u r ≡ 0) → (p : ℕ) → word_at s u p ≡ 0
  unfolding word_at
  word_at_zeros u e p = weights_zeros (k_of s) (λ r. entry s r p) u e

  -- a symbol of a word is a byte
  pub word_at_below : (u : ℕ → ℕ) (p : ℕ) → word_at s u p < 256
  unfolding word_at
  word_at_below u p = sum_below 8 (k_of s) (λ r. u r ⊗ entry s r p) (λ r _. times_below (u r) (entry s r p))

-- a sum of multiples of words is a word
pub word_of_sum : (s : Settings) (m : ℕ) (c : ℕ → ℕ) (u : ℕ → ℕ → ℕ) (p : ℕ)
    → word_at s (λ r. sum m (λ e. c e ⊗ u e r)) p ≡ sum m (λ e. c e ⊗ word_at s (u e) p)
unfolding sum
word_of_sum s zero c u p = word_at_zeros s (λ r. 0) (λ r h. refl) p
word_of_sum s (suc m) c u p =
    word_at_plus s (λ r. sum m (λ e. c e ⊗ u e r)) (λ r. c m ⊗ u m r) p
    ∙ ap₂ ◌⊕◌ (word_of_sum s m c u p) (word_at_times s (c m) (u m) p)

-- ---- the first k positions are triangular

-- a sum whose terms from m on are 0
sum_prefix : (m n : ℕ) (f : ℕ → ℕ) → m ≤ n → ((i : ℕ) → m ≤ i → i < n → f i ≡ 0) → sum n f ≡ sum m f
sum_prefix m n f h e =
    let rest : n ≡ m + (n - m) = omega arith in
    ap (λ (k : ℕ). sum k f) rest ∙ sum-split m (n - m) f
    ∙ ap (λ (x : ℕ). sum m f ⊕ x) (sum_zeros (n - m) (λ i. f (m + i)) (λ i hi. e (m + i) (omega arith) (omega arith)))
    ∙ plus_zero (sum m f)

module _ (s : Settings) (h : Shape s) where
  -- symbol p is what the rows above row p give at position p, and the multiplier of row p
  pub word_triangular : (u : ℕ → ℕ) → ((r : ℕ) → u r < 256) → (p : ℕ) → p < k_of s
      → word_at s u p ≡ sum p (λ r. u r ⊗ entry s r p) ⊕ u p
  unfolding word_at sum
  word_triangular u b p hp =
      sum_prefix (suc p) (k_of s) (λ r. u r ⊗ entry s r p) hp
      (λ r low high. ap (λ (x : ℕ). u r ⊗ x) (entry_zero_low s h r p high low) ∙ times_zero (u r))
      ∙ ap (λ (x : ℕ). sum p (λ r. u r ⊗ entry s r p) ⊕ x)
      (ap (λ (x : ℕ). u p ⊗ x) (entry_one s h p hp) ∙ times_comm (u p) 1 ∙ one_times (u p) (b p))

  -- where the multipliers before i are 0, symbol i is multiplier i
  pub word_first : (u : ℕ → ℕ) → ((r : ℕ) → u r < 256) → (i : ℕ) → i < k_of s → ((r : ℕ) → r < i → u r ≡ 0) → word_at s u i ≡ u i
  word_first u b i hi zeros =
      word_triangular u b i hi ∙ ap (λ (x : ℕ). x ⊕ u i) (weights_zeros i (λ r. entry s r i) u zeros) ∙ zero_plus (u i)

  -- ---- the first symbols determine the multipliers

  -- where the first i symbols are 0, so are the first i multipliers
  pub zero_multipliers : (u : ℕ → ℕ) → ((r : ℕ) → u r < 256) → (i : ℕ) → i ≤ k_of s
      → ((p : ℕ) → p < i → word_at s u p ≡ 0) → (r : ℕ) → r < i → u r ≡ 0
  zero_multipliers u b zero hi e r hr = absurd (not-suc-le-zero hr)
  zero_multipliers u b (suc i) hi e r hr =
      let before : (q : ℕ) → q < i → u q ≡ 0 = zero_multipliers u b i (le_of_lt hi) (λ p hp. e p (le_step hp)) in
      ⊎_elim
      (λ same.
      ap u same ∙ sym (word_first u b i hi before) ∙ e i (lt-suc_self i))
      (λ below. before r below)
      (eq-or-lt_of_le (le_of_suc-le-suc hr))

  -- words with the same first k symbols have the same multipliers
  pub word_unique : (u v : ℕ → ℕ) → ((r : ℕ) → u r < 256) → ((r : ℕ) → v r < 256)
      → ((p : ℕ) → p < k_of s → word_at s u p ≡ word_at s v p) → (r : ℕ) → r < k_of s → u r ≡ v r
  word_unique u v bu bv e r hr =
      plus_cancel (u r) (v r)
      (zero_multipliers (λ r. u r ⊕ v r) (λ r. plus_below 8 (u r) (v r) (bu r) (bv r)) (k_of s) (omega arith)
      (λ p hp. word_at_plus s u v p ∙ ap (λ (x : ℕ). x ⊕ word_at s v p) (e p hp) ∙ plus_self (word_at s v p)) r hr)

  -- and so are equal at every position
  pub word_equal : (u v : ℕ → ℕ) → ((r : ℕ) → u r < 256) → ((r : ℕ) → v r < 256)
      → ((p : ℕ) → p < k_of s → word_at s u p ≡ word_at s v p) → (p : ℕ) → word_at s u p ≡ word_at s v p
  word_equal u v bu bv e = word_at_equal s u v (word_unique u v bu bv e)
