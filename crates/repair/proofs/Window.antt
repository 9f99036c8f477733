-- Theorem 4, the window: where the slots are fair, two words that fit what arrived agree at the message's symbol.
use mathlib.Core.Path.{◌≡◌, refl, sym, ap, ◌∙◌, subst, subst⁻¹}
use mathlib.Core.Bool.{Bool, true, false, not, ◌&&◌}
use mathlib.Core.Logic.{inl, inr, ⊎_elim}
use Prim.Native.Nat.{ℕ, zero, suc, ◌+◌, ◌-◌, ◌≤◌, ◌<◌}
use native.Mathlib.Nat.{add-zero, eq-or-lt_of_le, le_of_suc-le-suc, not-suc-le-zero}
use native.Mathlib.Omega.{arith}
use lib.Dec.{T, leb, leb→le}
use borrow.Author.Tests.{le-leb}
use Rattle.galois.specs.Byte.{◌⊕◌}
use Rattle.galois.proofs.Cases.{and_left}
use Rattle.galois.proofs.Counting.{count_all, count_equal}
use Rattle.galois.proofs.Xor.{plus_below, plus_self, plus_cancel}
use Rattle.code.specs.declared.settings.Settings.{Settings}
use Rattle.code.specs.Settings.{delay_of, k_of, n_of}
use Rattle.code.specs.Fitting.{Arrived, fits}
use Rattle.code.specs.Word.{word_at}
use Rattle.code.proofs.Shape.{Shape}
use Rattle.code.proofs.Words.{word_at_plus}
use Rattle.code.proofs.Fits.{fits_at}
use Rattle.repair.specs.Fair.{losses, fair_stretch, Fair, lost_position}
use Rattle.repair.proofs.Erasures.{Few}
use Rattle.repair.proofs.OneCodeword.{one_codeword}
use Rattle.repair.proofs.Stretch.{fair_stretch_lem}

-- ---- the lost positions of a codeword

-- a lost position's slot is not before 0
lost_from : (lost : ℕ → Bool) (t i p : ℕ) → T (lost_position lost t i p) → i ≤ t + p
unfolding lost_position
lost_from lost t i p l = leb→le i (t + p) (and_left (leb i (t + p)) (lost (t + p - i)) l)

-- from a position whose slot is not before 0, positions follow each other as slots do
position_slot : (lost : ℕ → Bool) (t i j : ℕ) → i ≤ t + j → (x : ℕ)
    → lost_position lost t i (j + x) ≡ lost (t + j - i + x)
unfolding lost_position
position_slot lost t i j h x =
    ap (λ (b : Bool). b && lost (t + (j + x) - i)) (le-leb i (t + (j + x)) (omega arith)) ∙ ap lost (omega arith)

-- where position j is lost, few of the positions from j on are
pub few : (s : Settings) → Shape s → (t i j : ℕ) → i < k_of s → j ≤ i → (lost : ℕ → Bool)
    → Fair s lost (t + 1 - k_of s) (t + delay_of s) → T (lost_position lost t i j) → Few s (lost_position lost t i) j
unfolding losses
few s shape t i j hi hj lost fair l =
    let h : i ≤ t + j = lost_from lost t i j l in
    let a : ℕ = t + j - i in
    let slot : (x : ℕ) → lost_position lost t i (j + x) ≡ lost (a + x) = position_slot lost t i j h in
    ⊎_elim
    (λ sparse.
    inl
    (subst⁻¹ (λ (c : ℕ). c ≤ s.scattered)
    (count_equal (delay_of s + 1) (λ x. lost_position lost t i (j + x)) (λ x. lost (a + x)) (λ x hx. slot x)) sparse))
    (λ close.
    let head : T (lost (a + 0)) = subst T (ap (lost_position lost t i) (sym (add-zero j)) ∙ slot 0) l in
    inr
    (λ x hx e.
    omega (arith, close (a + 0) (a + x) (omega arith, omega arith, head) (omega arith, omega arith, subst T (slot x) e))))
    ((fair_stretch_lem s lost a (delay_of s + 1)).0 (fair a (delay_of s + 1) (omega arith) (omega arith) (omega arith)))

-- ---- the words

module _ (s : Settings) (shape : Shape s) (t i : ℕ) (hi : i < k_of s) (lost : ℕ → Bool)
    (fair : Fair s lost (t + 1 - k_of s) (t + delay_of s)) where
  module _ (w : ℕ → ℕ) (bytes : (r : ℕ) → w r < 256)
      (heard : (p : ℕ) → p < n_of s → p ≤ i + delay_of s → T (not (lost_position lost t i p)) → word_at s w p ≡ 0) where
    -- position p, by whether it was lost, from those before it
    position_zero : (p : ℕ) → p ≤ i → ((q : ℕ) → q < p → word_at s w q ≡ 0)
        → (b : Bool) → lost_position lost t i p ≡ b → word_at s w p ≡ 0
    position_zero p hp before true e =
        one_codeword s shape w bytes p (omega arith) before (lost_position lost t i)
        (λ q from to hq. heard q hq (omega arith))
        (few s shape t i p hi hp lost fair (subst⁻¹ T e tt))
    position_zero p hp before false e =
        heard p (omega arith) (omega arith) (subst⁻¹ (λ (b : Bool). T (not b)) e tt)

    -- a word that is 0 wherever it was heard is 0 at the first m positions
    positions_zero : (m : ℕ) → m ≤ i + 1 → (p : ℕ) → p < m → word_at s w p ≡ 0
    positions_zero zero hm p h = absurd (not-suc-le-zero h)
    positions_zero (suc m) hm p h =
        ⊎_elim
        (λ same.
        subst⁻¹ (λ (q : ℕ). word_at s w q ≡ 0) same
        (position_zero m (omega arith) (positions_zero m (omega arith)) (lost_position lost t i m) refl))
        (λ below. positions_zero m (omega arith) p below)
        (eq-or-lt_of_le (le_of_suc-le-suc h))

  -- words that agree at every position heard agree up to position i
  pub window : (u v : ℕ → ℕ) → ((r : ℕ) → u r < 256) → ((r : ℕ) → v r < 256)
      → ((p : ℕ) → p < n_of s → p ≤ i + delay_of s → T (not (lost_position lost t i p)) → word_at s u p ≡ word_at s v p)
      → (p : ℕ) → p ≤ i → word_at s u p ≡ word_at s v p
  window u v hu hv agree p hp =
      plus_cancel (word_at s u p) (word_at s v p)
      (sym (word_at_plus s u v p)
      ∙ positions_zero (λ r. u r ⊕ v r) (λ r. plus_below 8 (u r) (v r) (hu r) (hv r))
      (λ q hq to h.
      word_at_plus s u v q ∙ ap (λ (x : ℕ). x ⊕ word_at s v q) (agree q hq to h) ∙ plus_self (word_at s v q))
      (i + 1) (omega arith) p (omega arith))

-- two words that fit what arrived, every position heard among it, agree at the message's symbol
pub window_fits : (s : Settings) → Shape s → (t i : ℕ) → i < k_of s → (lost : ℕ → Bool)
    → Fair s lost (t + 1 - k_of s) (t + delay_of s) → (a : Arrived)
    → ((p : ℕ) → p < n_of s → p ≤ i + delay_of s → T (not (lost_position lost t i p)) → T (a.known p))
    → (u v : ℕ → ℕ) → ((r : ℕ) → u r < 256) → ((r : ℕ) → v r < 256) → T (fits s a u) → T (fits s a v)
    → word_at s u i ≡ word_at s v i
window_fits s shape t i hi lost fair a heard u v hu hv fu fv =
    window s shape t i hi lost fair u v hu hv
    (λ p hp to h. fits_at s a u p hp fu (heard p hp to h) ∙ sym (fits_at s a v p hp fv (heard p hp to h))) i (omega arith)

-- ---- T + 1 slots in a row

-- of T + 1 slots in a row, where they are fair, not all are lost
pub not_all_lost : (s : Settings) → Shape s → (lost : ℕ → Bool) (t : ℕ) → T (fair_stretch s lost t (delay_of s + 1))
    → ((x : ℕ) → x < delay_of s + 1 → T (lost (t + x))) → ⊥
unfolding losses
not_all_lost s h lost t fair all =
    ⊎_elim (λ few. omega (arith, count_all (delay_of s + 1) (λ x. lost (t + x)) all))
    (λ close.
    omega (
      arith,
      close (t + 0) (t + delay_of s) (omega arith, omega arith, all 0 (omega arith))
          (omega arith, omega arith, all (delay_of s) (omega arith)),
    ))
    ((fair_stretch_lem s lost t (delay_of s + 1)).0 fair)
