-- What holds once elimination has come to position p: the words are G's, and the rows are reduced at the positions before it.
-- It starts after the sources, at position k.
use mathlib.Core.Path.{◌≡◌, refl, sym, ap, ◌∙◌, subst, subst⁻¹}
use mathlib.Core.Bool.{Bool, true, false, cond}
use mathlib.Core.List.{List}
use mathlib.Core.Logic.{◌≢◌, ⊎_elim}
use Prim.Native.Nat.{ℕ, zero, suc, ◌+◌, ◌≤◌, ◌<◌}
use native.Mathlib.Nat.{add-zero, add-suc, eq-or-lt_of_le, le_of_suc-le-suc, le_step, lt-suc_self, le_refl}
use native.Mathlib.Omega.{arith}
use lib.Dec.{T}
use lib.ListN.{length, get_or, set, length-set}
use lib.Seq.{get_or-set_same, get_or-set_other}
use Rattle.galois.proofs.Cases.{is_true}
use Rattle.code.specs.declared.settings.Settings.{Settings}
use Rattle.code.specs.Matrix.{entry}
use Rattle.code.specs.Settings.{accepted, k_of, n_of}
use Rattle.code.specs.Word.{systematic_of}
use Rattle.code.proofs.Shape.{Shape, shape}
use Rattle.elimination.specs.declared.reduced.Reduced.{Reduced}
use Rattle.elimination.specs.Elimination.{cell, free, cleared, first_roles, columns, started, eliminated}
use Rattle.elimination.proofs.Spans.{Spans, spans_trans}
use Rattle.elimination.proofs.SystematicRows.{systematic_below, source_one, source_zero, systematic_spans}
use Rattle.elimination.proofs.Steps.{same_or_other, cleared_below, cleared_kept, cleared_one, cleared_zero, cleared_spans}
use Rattle.elimination.proofs.Roles.{role_free, role_taken, role_kept, role_keeps, first_sixteen, first_role}
use Rattle.elimination.proofs.Pivots.{step_cases}

-- row r is the pivot of position j: a known one before p, where row r is 1 and every other row is 0
pub record Pivot (k : ℕ) (known : ℕ → Bool) (p : ℕ) (m : List (List ℕ)) (r j : ℕ) : Type 0 where
  pub done : j < p
  pub is_known : T (known j)
  pub one : cell m r j ≡ 1
  pub zeros : (q : ℕ) → q < k → q ≢ r → cell m q j ≡ 0

-- what holds at position p
pub record Invariant (s : Settings) (known : ℕ → Bool) (p : ℕ) (x : Reduced) : Type 0 where
  pub words : Spans (k_of s) 16 (cell x.rows) (entry s)
  pub sixteen : length x.roles ≡ 16
  pub bytes : (r j : ℕ) → r < k_of s → j < 16 → cell x.rows r j < 256
  pub pivots : (r : ℕ) → r < k_of s → (T (free x.roles r) → ⊥) → Pivot (k_of s) known p x.rows r (get_or x.roles r 16)
  -- a row that is no pivot is 0 at every known position
  pub free_zeros : (q : ℕ) → q < p → T (known q) → (r : ℕ) → r < k_of s → T (free x.roles r) → cell x.rows r q ≡ 0

-- ---- at the start

module _ (s : Settings) (passed : T (accepted s)) (known : ℕ → Bool) where
  -- a known source is the pivot of its own row
  source_pivot : (r : ℕ) → r < k_of s → T (known r) → Pivot (k_of s) known (k_of s) (systematic_of s) r r
  source_pivot r hr kn = record {
    done = hr;
    is_known = kn;
    one = source_one s passed r hr;
    zeros = λ q hq ne. source_zero s passed q r hq hr (λ same. ne (sym same));
  }

  -- by its role
  first_pivot : (r : ℕ) → r < k_of s → (T (free (first_roles s known) r) → ⊥)
      → Pivot (k_of s) known (k_of s) (systematic_of s) r (get_or (first_roles s known) r 16)
  first_pivot r hr taken = go (known r) refl
    where
      go : (b : Bool) → known r ≡ b → Pivot (k_of s) known (k_of s) (systematic_of s) r (get_or (first_roles s known) r 16)
      go true e = rw (first_role s (shape s passed) known r hr, e) (source_pivot r hr (subst⁻¹ T e tt))
      go false e =
          absurd (taken (role_free (first_roles s known) r
          (first_role s (shape s passed) known r hr ∙ ap (λ (b : Bool). cond b r 16) e)))

  -- and no known source has a free row
  source_taken : (r : ℕ) → r < k_of s → T (known r) → T (free (first_roles s known) r) → ⊥
  source_taken r hr kn =
      let h : Shape s = shape s passed in
      role_taken (first_roles s known) r
      (λ at. let same : r ≡ 16 =
      sym (first_role s h known r hr ∙ ap (λ (b : Bool). cond b r 16) (is_true (known r) kn)) ∙ at in omega arith)

  -- the systematic form, with the known sources as pivots
  invariant_start : Invariant s known (k_of s) (started s known)
  invariant_start = record {
    words = systematic_spans s passed;
    sixteen = first_sixteen s known;
    bytes = systematic_below s passed;
    pivots = first_pivot;
    free_zeros = λ q hq kn r hr f.
        source_zero s passed r q hr hq
        (λ same. source_taken q hq kn (subst⁻¹ (λ (q : ℕ). T (free (first_roles s known) q)) same f));
  }

-- ---- one more position

-- a pivot stays one where the matrix does
pivot_later : (k : ℕ) (known : ℕ → Bool) (p : ℕ) (m : List (List ℕ)) (r j : ℕ) → Pivot k known p m r j → Pivot k known (suc p) m r j
pivot_later k known p m r j v =
    record { done = le_step v.done; is_known = v.is_known; one = v.one; zeros = v.zeros }

module _ (s : Settings) (h : Shape s) (known : ℕ → Bool) (p : ℕ) (hp : p < n_of s) (x : Reduced) (i : Invariant s known p x) where
  -- where nothing changes, as every free row is 0 at the position or it is not known
  unchanged : (T (known p) → (q : ℕ) → q < k_of s → T (free x.roles q) → cell x.rows q p ≡ 0) → Invariant s known (suc p) x
  unchanged zero-here = record {
    words = i.words;
    sixteen = i.sixteen;
    bytes = i.bytes;
    pivots = λ r hr taken. pivot_later (k_of s) known p x.rows r (get_or x.roles r 16) (i.pivots r hr taken);
    free_zeros = λ q hq kn r hr f.
        ⊎_elim
        (λ same. rw same (zero-here (subst (λ (q : ℕ). T (known q)) same kn) r hr f))
        (λ before. i.free_zeros q before kn r hr f)
        (eq-or-lt_of_le (le_of_suc-le-suc hq));
  }

  module _ (kn : T (known p)) (r : ℕ) (hr : r < k_of s) (f : T (free x.roles r)) (nz : cell x.rows r p ≢ 0) where
    -- an earlier known position stays as it was, since row r is 0 there
    earlier : (q j : ℕ) → q < k_of s → j < p → T (known j) → cell (cleared (k_of s) x.rows r p) q j ≡ cell x.rows q j
    earlier q j hq hj kj =
        cleared_kept (k_of s) (omega arith) x.rows r p q j hr hq (omega arith) (i.free_zeros j hj kj r hr f)

    -- every other row is 0 at position p
    others : (q : ℕ) → q < k_of s → q ≢ r → cell (cleared (k_of s) x.rows r p) q p ≡ 0
    others q hq ne =
        cleared_zero (k_of s) (omega arith) x.rows r p q hr hq (omega arith) (i.bytes r p hr (omega arith)) nz
        (i.bytes q p hq (omega arith)) ne

    -- row r is the new pivot
    new_pivot : Pivot (k_of s) known (suc p) (cleared (k_of s) x.rows r p) r p
    new_pivot = record {
      done = lt-suc_self p;
      is_known = kn;
      one = cleared_one (k_of s) (omega arith) x.rows r p hr (omega arith) (i.bytes r p hr (omega arith)) nz;
      zeros = others;
    }

    -- the others stay pivots
    old_pivot : (q j : ℕ) → q < k_of s → Pivot (k_of s) known p x.rows q j → Pivot (k_of s) known (suc p) (cleared (k_of s) x.rows r p) q j
    old_pivot q j hq v = record {
      done = le_step v.done;
      is_known = v.is_known;
      one = earlier q j hq v.done v.is_known ∙ v.one;
      zeros = λ o ho ne. earlier o j ho v.done v.is_known ∙ v.zeros o ho ne;
    }

    -- its role is p
    role_new : get_or (set x.roles r p) r 16 ≡ p
    role_new = get_or-set_same x.roles r p 16 (rw i.sixteen (omega arith))

    -- where row r becomes the pivot of position p
    changed : Invariant s known (suc p) (record { rows = cleared (k_of s) x.rows r p; roles = set x.roles r p })
    changed = record {
      words =
          spans_trans (k_of s) 16 (cell (cleared (k_of s) x.rows r p)) (cell x.rows) (entry s)
          (cleared_spans (k_of s) (omega arith) x.rows r p hr (omega arith) nz i.bytes) i.words;
      sixteen = length-set x.roles r p ∙ i.sixteen;
      bytes = λ q j hq hj. cleared_below (k_of s) (omega arith) x.rows r p q j hr hq hj (i.bytes q j hq hj);
      pivots = λ q hq taken.
          ⊎_elim
          (λ same. rw same (rw role_new new_pivot))
          (λ ne. rw (get_or-set_other x.roles r q p 16 ne)
          (old_pivot q (get_or x.roles q 16) hq (i.pivots q hq (λ t. taken (role_keeps x.roles r p q ne t)))))
          (same_or_other q r);
      free_zeros = λ j hj kj q hq t.
          let ne : q ≢ r = λ same.
          role_taken (set x.roles r p) r (λ at. let sixteen : p ≡ 16 = sym role_new ∙ at in omega arith)
          (subst (λ (q : ℕ). T (free (set x.roles r p) q)) same t) in
          ⊎_elim
          (λ same. rw same (others q hq ne))
          (λ before. earlier q j hq before kj ∙ i.free_zeros j before kj q hq (role_kept x.roles r p q ne t))
          (eq-or-lt_of_le (le_of_suc-le-suc hj));
    }

-- ---- all positions

-- it holds after any number of parity positions
pub invariant : (s : Settings) → T (accepted s) → (known : ℕ → Bool) (e : ℕ) → e ≤ s.burst
    → Invariant s known (k_of s + e) (columns s known (started s known) e)
unfolding columns
invariant s passed known zero he =
    subst⁻¹ (λ (p : ℕ). Invariant s known p (started s known)) (add-zero (k_of s)) (invariant_start s passed known)
invariant s passed known (suc e) he =
    let h : Shape s = shape s passed in
    let p : ℕ = k_of s + e in
    let hp : p < n_of s = omega arith in
    let x : Reduced = columns s known (started s known) e in
    let i : Invariant s known p x = invariant s passed known e (omega arith) in
    subst⁻¹ (λ (q : ℕ). Invariant s known q (columns s known (started s known) (suc e))) (add-suc (k_of s) e)
    (step_cases (Invariant s known (suc p)) (k_of s) (known p) p x (omega arith)
    (λ unknown. unchanged s h known p hp x i (λ kn. absurd (unknown kn)))
    (λ kn zero-here. unchanged s h known p hp x i (λ _. zero-here))
    (λ kn r hr f nz. changed s h known p hp x i kn r hr f nz))

-- and after all of them
pub invariant_end : (s : Settings) → T (accepted s) → (known : ℕ → Bool) → Invariant s known (n_of s) (eliminated s known)
unfolding eliminated
invariant_end s passed known =
    subst⁻¹ (λ (p : ℕ). Invariant s known p (columns s known (started s known) s.burst)) (shape s passed).symbols
    (invariant s passed known s.burst (le_refl s.burst))
