-- The fitting words as words over the reduced rows: their multipliers at the pivots, and the word of the pivots alone.
use mathlib.Core.Path.{◌≡◌, refl, sym, ap, ◌∙◌, subst⁻¹}
use mathlib.Core.Bool.{Bool, true, false, cond, not, ◌&&◌}
use Prim.Native.Nat.{ℕ, ◌<◌}
use native.Mathlib.Omega.{arith}
use lib.Dec.{T, T_not, eqb, lit<}
use lib.ListN.{get_or}
use Rattle.galois.specs.Byte.{◌⊗◌}
use Rattle.galois.proofs.Cases.{some_any}
use Rattle.galois.proofs.ByteProduct.{times_comm, times_zero, zero_times, one_times}
use Rattle.galois.proofs.Sums.{sum-equal, sum_single}
use Rattle.code.specs.declared.settings.Settings.{Settings}
use Rattle.code.specs.Settings.{k_of, n_of}
use Rattle.code.specs.Word.{OfWord, word_at}
use Rattle.code.specs.Fitting.{Arrived, fits}
use Rattle.code.proofs.Shape.{Shape}
use Rattle.code.proofs.Fits.{fits_at, fits_all}
use Rattle.elimination.specs.declared.reduced.Reduced.{Reduced}
use Rattle.elimination.specs.Elimination.{cell, free, combined, clashes}
use Rattle.elimination.proofs.Spans.{word}
use Rattle.elimination.proofs.Pivots.{test_equal}
use Rattle.elimination.proofs.Invariant.{Pivot, Invariant}

module _ (s : Settings) (h : Shape s) (a : Arrived) (x : Reduced) (i : Invariant s a.known (n_of s) x) where
  -- a word over the reduced rows has the byte that arrived at every known position
  abbrev pub Agrees : (ℕ → ℕ) → Type 0
  Agrees v = (q : ℕ) → q < n_of s → T (a.known q) → word (k_of s) (cell x.rows) v q ≡ a.byte q

  -- then each pivot's multiplier is the byte at its position
  pivot_multiplier : (v : ℕ → ℕ) → OfWord v → Agrees v → (r : ℕ) → r < k_of s → (T (free x.roles r) → ⊥)
      → v r ≡ a.byte (get_or x.roles r 16)
  pivot_multiplier v hv e r hr taken =
      let j : ℕ = get_or x.roles r 16 in
      let at : Pivot (k_of s) a.known (n_of s) x.rows r j = i.pivots r hr taken in
      sym
      (sum_single (k_of s) r (λ q. v q ⊗ cell x.rows q j) hr
      (λ q hq ne. ap (λ (c : ℕ). v q ⊗ c) (at.zeros q hq ne) ∙ times_zero (v q))
      ∙ ap (λ (c : ℕ). v r ⊗ c) at.one ∙ times_comm (v r) 1 ∙ one_times (v r) (hv r))
      ∙ e j at.done at.is_known

  -- so it is the combined word wherever the free rows are 0
  agrees_combined : (v : ℕ → ℕ) → OfWord v → Agrees v → (q : ℕ)
      → ((r : ℕ) → r < k_of s → T (free x.roles r) → cell x.rows r q ≡ 0)
      → word (k_of s) (cell x.rows) v q ≡ combined s x a.byte q
  unfolding combined
  agrees_combined v hv e q zeros =
      sum-equal (k_of s) (λ r. v r ⊗ cell x.rows r q)
      (λ r. cond (free x.roles r) 0 (a.byte (get_or x.roles r 16) ⊗ cell x.rows r q))
      (λ r hr. term r hr (free x.roles r) refl)
    where
      term : (r : ℕ) → r < k_of s → (t : Bool) → free x.roles r ≡ t
          → v r ⊗ cell x.rows r q ≡ cond t 0 (a.byte (get_or x.roles r 16) ⊗ cell x.rows r q)
      term r hr true f = ap (λ (c : ℕ). v r ⊗ c) (zeros r hr (subst⁻¹ T f tt)) ∙ times_zero (v r)
      term r hr false f = ap (λ (c : ℕ). c ⊗ cell x.rows r q) (pivot_multiplier v hv e r hr (λ t. rw f at t))

  -- a fitting word is the combined word wherever the free rows are 0
  pub fitting_combined : (u : ℕ → ℕ) → OfWord u → T (fits s a u) → (q : ℕ) → q < n_of s
      → ((r : ℕ) → r < k_of s → T (free x.roles r) → cell x.rows r q ≡ 0)
      → word_at s u q ≡ combined s x a.byte q
  unfolding word_at
  fitting_combined u hu f q hq zeros =
      let v = i.words.back u hu in
      v.2 q (omega arith)
      ∙ agrees_combined v.0 v.1
      (λ p hp kn. sym (v.2 p (omega arith)) ∙ fits_at s a u p hp f kn) q zeros

  -- the multipliers of the combined word
  pub chosen : ℕ → ℕ
  chosen r = cond (free x.roles r) 0 (a.byte (get_or x.roles r 16))

  -- they are bytes where the bytes that arrived are
  pub chosen_below : ((p : ℕ) → a.byte p < 256) → OfWord chosen
  unfolding chosen
  chosen_below hb r = go (free x.roles r)
    where
      go : (t : Bool) → cond t 0 (a.byte (get_or x.roles r 16)) < 256
      go true = lit< tt
      go false = hb (get_or x.roles r 16)

  -- and their word is the combined word
  pub chosen_word : (q : ℕ) → word (k_of s) (cell x.rows) chosen q ≡ combined s x a.byte q
  unfolding combined chosen
  chosen_word q =
      sum-equal (k_of s) (λ r. chosen r ⊗ cell x.rows r q)
      (λ r. cond (free x.roles r) 0 (a.byte (get_or x.roles r 16) ⊗ cell x.rows r q))
      (λ r hr. term r (free x.roles r))
    where
      term : (r : ℕ) (t : Bool)
          → cond t 0 (a.byte (get_or x.roles r 16)) ⊗ cell x.rows r q
          ≡ cond t 0 (a.byte (get_or x.roles r 16) ⊗ cell x.rows r q)
      term r true = zero_times (cell x.rows r q)
      term r false = refl

  -- without a clash it has the byte that arrived at every known position
  pub combined_known : T (not (clashes s x a.known a.byte)) → (q : ℕ) → q < n_of s → T (a.known q)
      → combined s x a.byte q ≡ a.byte q
  unfolding clashes
  combined_known clear q hq kn =
      test_equal (a.known q) (combined s x a.byte q) (a.byte q)
      (λ t. T_not (clashes s x a.known a.byte) clear
      (some_any (n_of s) (λ q. a.known q && not (eqb (combined s x a.byte q) (a.byte q))) q hq t))
      kn

  -- a word over the reduced rows that agrees, as a word that fits
  pub agrees_fits : (v : ℕ → ℕ) → OfWord v → Agrees v
      → (u : ℕ → ℕ) × OfWord u × T (fits s a u) × ((q : ℕ) → q < n_of s → word_at s u q ≡ word (k_of s) (cell x.rows) v q)
  unfolding word_at
  agrees_fits v hv e =
      let u = i.words.there v hv in
      (u.0, u.1, fits_all s a u.0 (λ p hp kn. sym (u.2 p (omega arith)) ∙ e p hp kn), λ q hq. sym (u.2 q (omega arith)))
