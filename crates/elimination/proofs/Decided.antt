-- Elimination decides: whether a word fits, whether two fitting words differ at a position, and the byte that they share.
use mathlib.Core.Path.{◌≡◌, sym, ap, ◌∙◌}
use mathlib.Core.Bool.{not, ◌&&◌}
use mathlib.Core.Logic.{◌≢◌}
use Prim.Native.Nat.{ℕ, ◌<◌}
use native.Mathlib.Omega.{arith}
use lib.Dec.{T, T_not, eqb, lit<}
use Rattle.galois.specs.Byte.{◌⊕◌}
use Rattle.galois.proofs.Cases.{and_left, any_at, some_any}
use Rattle.galois.proofs.Xor.{plus_assoc, plus_zero, plus_self, zero_plus, plus_below}
use Rattle.galois.proofs.ByteProduct.{one_times}
use Rattle.code.specs.declared.settings.Settings.{Settings}
use Rattle.code.specs.Settings.{accepted, k_of, n_of}
use Rattle.code.specs.Word.{word_at}
use Rattle.code.specs.Fitting.{Arrived, fits}
use Rattle.code.proofs.Shape.{Shape, shape}
use Rattle.code.proofs.Fits.{fits_at}
use Rattle.elimination.specs.declared.reduced.Reduced.{Reduced}
use Rattle.elimination.specs.Elimination.{cell, free, eliminated, combined, clashes, differs}
use Rattle.elimination.proofs.Spans.{word, only, only_below, word_only, word_plus}
use Rattle.elimination.proofs.Pivots.{test_equal, test_differs}
use Rattle.elimination.proofs.Invariant.{Invariant, invariant_end}
use Rattle.elimination.proofs.Agreeing.{fitting_combined, chosen, chosen_below, chosen_word, combined_known, agrees_fits}

-- a term that leaves a sum as it was is 0
added_zero : (x y : ℕ) → x ⊕ y ≡ x → y ≡ 0
added_zero x y e =
    sym (zero_plus y) ∙ ap (λ (z : ℕ). z ⊕ y) (sym (plus_self x)) ∙ plus_assoc x x y ∙ ap (λ (z : ℕ). x ⊕ z) e ∙ plus_self x

module _ (s : Settings) (passed : T (accepted s)) (a : Arrived) where
  abbrev h : Shape s
  h = shape s passed

  -- where there is a clash no word fits
  pub decided_clash : T (clashes s (eliminated s a.known) a.known a.byte) → (u : ℕ → ℕ) → ((r : ℕ) → u r < 256)
      → T (fits s a u) → ⊥
  unfolding clashes
  decided_clash t u hu f =
      let x : Reduced = eliminated s a.known in
      let i : Invariant s a.known (n_of s) x = invariant_end s passed a.known in
      let found = any_at (n_of s) (λ q. a.known q && not (eqb (combined s x a.byte q) (a.byte q))) t in
      let q : ℕ = found.0 in
      let kn : T (a.known q) = and_left (a.known q) (not (eqb (combined s x a.byte q) (a.byte q))) found.2 in
      test_differs (a.known q) (combined s x a.byte q) (a.byte q) found.2
      (sym (fitting_combined s h a x i u hu f q found.1 (i.free_zeros q found.1 kn)) ∙ fits_at s a u q found.1 f kn)

  -- where no free row differs at i, every fitting word has the combined byte there
  pub decided_shared : (i : ℕ) → i < n_of s → T (not (differs s (eliminated s a.known) i)) → (u : ℕ → ℕ)
      → ((r : ℕ) → u r < 256) → T (fits s a u) → word_at s u i ≡ combined s (eliminated s a.known) a.byte i
  unfolding differs
  decided_shared i hi t u hu f =
      let x : Reduced = eliminated s a.known in
      fitting_combined s h a x (invariant_end s passed a.known) u hu f i hi
      (λ r hr fr. test_equal (free x.roles r) (cell x.rows r i) 0
      (λ passed. T_not (differs s x i) t
      (some_any (k_of s) (λ r. free x.roles r && not (eqb (cell x.rows r i) 0)) r hr passed))
      fr)

  module _ (hb : (p : ℕ) → a.byte p < 256) (clear : T (not (clashes s (eliminated s a.known) a.known a.byte))) where
    -- where there is no clash the combined word fits
    pub decided_fits : (u : ℕ → ℕ) × ((r : ℕ) → u r < 256) × T (fits s a u)
        × ((q : ℕ) → q < n_of s → word_at s u q ≡ combined s (eliminated s a.known) a.byte q)
    decided_fits =
        let x : Reduced = eliminated s a.known in
        let i : Invariant s a.known (n_of s) x = invariant_end s passed a.known in
        let z : ℕ → ℕ = chosen s h a x i in
        let u = agrees_fits s h a x i z (chosen_below s h a x i hb)
        (λ q hq kn. chosen_word s h a x i q ∙ combined_known s h a x i clear q hq kn) in
        (u.0, u.1, u.2, λ q hq. u.3 q hq ∙ chosen_word s h a x i q)

    -- and so does that word with a free row added
    beside : (r : ℕ) → r < k_of s → T (free (eliminated s a.known).roles r)
        → (u : ℕ → ℕ) × ((r : ℕ) → u r < 256) × T (fits s a u)
        × ((q : ℕ) → q < n_of s
        → word_at s u q ≡ combined s (eliminated s a.known) a.byte q ⊕ cell (eliminated s a.known).rows r q)
    beside r hr fr =
        let x : Reduced = eliminated s a.known in
        let i : Invariant s a.known (n_of s) x = invariant_end s passed a.known in
        let z : ℕ → ℕ = chosen s h a x i in
        let w : ℕ → ℕ = λ q. z q ⊕ only r 1 q in
        let sums : (q : ℕ) → q < n_of s
        → word (k_of s) (cell x.rows) w q ≡ combined s x a.byte q ⊕ cell x.rows r q = λ q hq.
        word_plus (k_of s) (cell x.rows) z (only r 1) q
        ∙ ap (λ (c : ℕ). c ⊕ word (k_of s) (cell x.rows) (only r 1) q) (chosen_word s h a x i q)
        ∙ ap (λ (c : ℕ). combined s x a.byte q ⊕ c)
        (word_only (k_of s) (cell x.rows) r 1 q hr ∙ one_times (cell x.rows r q) (i.bytes r q hr (omega (arith, h.symbols_few)))) in
        let u = agrees_fits s h a x i w
        (λ q. plus_below 8 (z q) (only r 1 q) (chosen_below s h a x i hb q) (only_below r 1 (lit< tt) q))
        (λ q hq kn. sums q hq ∙ ap (λ (c : ℕ). combined s x a.byte q ⊕ c) (i.free_zeros q hq kn r hr fr)
        ∙ plus_zero (combined s x a.byte q) ∙ combined_known s h a x i clear q hq kn) in
        (u.0, u.1, u.2, λ q hq. u.3 q hq ∙ sums q hq)

    -- where some free row differs at i, two fitting words differ there
    pub decided_differs : (i : ℕ) → i < n_of s → T (differs s (eliminated s a.known) i)
        → (u : ℕ → ℕ) × (v : ℕ → ℕ) × ((r : ℕ) → u r < 256) × ((r : ℕ) → v r < 256) × T (fits s a u) × T (fits s a v)
        × (word_at s u i ≢ word_at s v i)
    unfolding differs
    decided_differs i hi t =
        let x : Reduced = eliminated s a.known in
        let found = any_at (k_of s) (λ r. free x.roles r && not (eqb (cell x.rows r i) 0)) t in
        let r : ℕ = found.0 in
        let u = decided_fits in
        let v = beside r found.1 (and_left (free x.roles r) (not (eqb (cell x.rows r i) 0)) found.2) in (
          u.0,
          v.0,
          u.1,
          v.1,
          u.2,
          v.2,
          λ same.
              test_differs (free x.roles r) (cell x.rows r i) 0 found.2
              (added_zero (combined s x a.byte i) (cell x.rows r i) (sym (v.3 i hi) ∙ sym same ∙ u.3 i hi)),
        )
