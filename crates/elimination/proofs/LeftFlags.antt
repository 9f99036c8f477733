-- The flags that elimination leaves: each stays as it was, or is 0 at the position of a pivot. The flags of the sources stay.
use mathlib.Core.Path.{◌≡◌, refl, sym, ap, ◌∙◌, subst, subst⁻¹}
use mathlib.Core.Bool.{Bool, true, false, cond}
use mathlib.Core.List.{List}
use mathlib.Core.Logic.{◌≢◌, ◌⊎◌, inl, inr, ⊎_elim}
use Prim.Native.Nat.{ℕ, zero, suc, ◌+◌, ◌≤◌, ◌<◌}
use native.Mathlib.Nat.{le_refl}
use native.Mathlib.Omega.{arith}
use lib.Dec.{T, ltb}
use lib.ListN.{length, get_or, set, length-set}
use lib.Seq.{get_or-set_same, get_or-set_other}
use borrow.Author.Tests.{lt-ltb, le-ltb, ltb-true, ltb-false}
use Rattle.galois.proofs.Cases.{is_true}
use Rattle.code.specs.declared.settings.Settings.{Settings}
use Rattle.code.specs.Settings.{accepted, k_of}
use Rattle.code.proofs.Shape.{Shape, shape}
use Rattle.elimination.specs.declared.reduced.Reduced.{Reduced}
use Rattle.elimination.specs.Elimination.{free, pivot_from, column_step, columns, eliminated, started, known_in}
use Rattle.elimination.specs.Elimination.{reduced_from, left_flag, left_after, left_from, Solved}
use Rattle.elimination.proofs.PivotSearch.{get_d_default}
use Rattle.elimination.proofs.Steps.{same_or_other}
use Rattle.elimination.proofs.Roles.{role_taken, first_sixteen, first_role}
use Rattle.elimination.proofs.Pivots.{pivot_below, pivot_step, step_cases}
use Rattle.elimination.proofs.Reductions.{reduced_accepted, sixteen_roles}

-- ---- one flag

-- that of a position that is not known stays, and so does one for which no row can be the pivot
pub unknown_left : (k p : ℕ) (x : Reduced) (b : Bool) (flag : ℕ) → b ≡ false → flag ≡ left_flag k b p x flag
unfolding left_flag
unknown_left k p x b flag e = rw e refl

pub no_pivot_left : (k p : ℕ) (x : Reduced) (b : Bool) (flag : ℕ) → b ≡ true → 15 < pivot_from x p 0 k → flag ≡ left_flag k b p x flag
unfolding left_flag
no_pivot_left k p x b flag e h = rw (e, le-ltb (pivot_from x p 0 k) 16 h) refl

-- that of a pivot is cleared
pub pivot_left : (k p : ℕ) (x : Reduced) (b : Bool) (flag : ℕ) → b ≡ true → pivot_from x p 0 k < 16 → 0 ≡ left_flag k b p x flag
unfolding left_flag
pivot_left k p x b flag e h = rw (e, lt-ltb (pivot_from x p 0 k) 16 h) refl

-- ---- all flags

-- for accepted settings those after all parity positions
pub left_accepted : (s : Settings) (x : Reduced) (flags : List ℕ) → accepted s ≡ true
    → left_after s x flags s.burst ≡ left_from s x flags
unfolding left_from
left_accepted s x flags e = rw (e, left_from)

-- as many as before
pub left_length : (s : Settings) (x : Reduced) (flags : List ℕ) (e : ℕ) → length (left_after s x flags e) ≡ length flags
unfolding left_after
left_length s x flags zero = refl
left_length s x flags (suc e) = length-set (left_after s x flags e) (k_of s + e) _ ∙ left_length s x flags e

-- those of the positions that are not done are still there
pub left_kept : (s : Settings) (x : Reduced) (flags : List ℕ) (e q : ℕ) → ((j : ℕ) → j < e → q ≢ k_of s + j)
    → get_or (left_after s x flags e) q 0 ≡ get_or flags q 0
unfolding left_after
left_kept s x flags zero q other = refl
left_kept s x flags (suc e) q other =
    get_or-set_other (left_after s x flags e) (k_of s + e) q _ 0 (other e (omega arith))
    ∙ left_kept s x flags e q (λ j h. other j (omega arith))

-- ---- the positions of pivots

-- a position of a pivot stays one
solved_step : (s : Settings) → Shape s → (known : Bool) (p : ℕ) (x : Reduced) → length x.roles ≡ 16 → (q : ℕ) → Solved s x.roles q
    → Solved s (column_step (k_of s) known p x).roles q
solved_step s h known p x sixteen q at =
    let row : ℕ = at.row in
    let below : row < k_of s = at.below in
    let role : get_or x.roles row 0 ≡ q = at.role in
    let inside : q < 16 = at.inside in
    let taken : T (free x.roles row) → ⊥ =
    role_taken x.roles row
    (λ same. let nought : get_or x.roles row 0 ≡ 16 = get_d_default x.roles row 0 16 (omega arith) ∙ same in omega arith) in
    step_cases (λ (y : Reduced). Solved s y.roles q) (k_of s) known p x (omega arith)
    (λ unknown. at) (λ is_Known none. at)
    (λ is_Known r hr is_free nonzero. record {
      row = row;
      below = below;
      role = get_or-set_other x.roles r row p 0 (λ same. taken (subst (λ (j : ℕ). T (free x.roles j)) (sym same) is_free)) ∙ role;
      inside = inside;
    })

pub solved_stays : (s : Settings) → Shape s → (known : ℕ → Bool) (x : Reduced) → length x.roles ≡ 16 → (e q : ℕ) → Solved s x.roles q
    → Solved s (columns s known x e).roles q
unfolding columns
solved_stays s h known x sixteen zero q at = at
solved_stays s h known x sixteen (suc e) q at =
    solved_step s h (known (k_of s + e)) (k_of s + e) (columns s known x e) (sixteen_roles s h known x sixteen e) q
    (solved_stays s h known x sixteen e q at)

-- a known source is the position of a pivot
pub source_solved : (s : Settings) → T (accepted s) → (known : ℕ → Bool) (q : ℕ) → q < k_of s → T (known q)
    → Solved s (eliminated s known).roles q
unfolding eliminated
source_solved s passed known q source kn =
    let h : Shape s = shape s passed in
    let inside : q < length (started s known).roles = omega (arith, first_sixteen s known) in
    solved_stays s h known (started s known) (first_sixteen s known) s.burst q
    (record {
      row = q;
      below = source;
      role = get_d_default (started s known).roles q 0 16 inside ∙ first_role s h known q source
          ∙ ap (λ (b : Bool). cond b q 16) (is_true (known q) kn);
      inside = omega arith;
    })

-- ---- what is left

-- the flag of position q stays, or is cleared and q is the position of a pivot
abbrev pub LeftOrPivot : Settings → List ℕ → List ℕ → Reduced → ℕ → Type 0
LeftOrPivot s flags left x q = (get_or left q 0 ≡ get_or flags q 0) ⊎ ((get_or left q 0 ≡ 0) × Solved s x.roles q)

-- at the position of a step
left_here : (s : Settings) → Shape s → (known : Bool) (p : ℕ) → p < 16 → (x : Reduced) → length x.roles ≡ 16 → (flag : ℕ)
    → (left_flag (k_of s) known p x flag ≡ flag)
    ⊎ ((left_flag (k_of s) known p x flag ≡ 0) × Solved s (column_step (k_of s) known p x).roles p)
left_here s h known p hp x sixteen flag = go known (ltb (pivot_from x p 0 (k_of s)) 16) refl refl
  where
    go : (b c : Bool) → known ≡ b → ltb (pivot_from x p 0 (k_of s)) 16 ≡ c
        → (left_flag (k_of s) known p x flag ≡ flag)
        ⊎ ((left_flag (k_of s) known p x flag ≡ 0) × Solved s (column_step (k_of s) known p x).roles p)
    go false c off e = inl (sym (unknown_left (k_of s) p x known flag off))
    go true false on e = inl (sym (no_pivot_left (k_of s) p x known flag on (ltb-false (pivot_from x p 0 (k_of s)) 16 e)))
    go true true on e =
        let r : ℕ = pivot_from x p 0 (k_of s) in
        let some : pivot_from x p 0 (k_of s) < 16 = ltb-true (pivot_from x p 0 (k_of s)) 16 e in
        inr (
          sym (pivot_left (k_of s) p x known flag on some),
          record {
            row = r;
            below = pivot_below x p (k_of s) some;
            role = ap (λ (y : Reduced). get_or y.roles r 0) (sym (pivot_step (k_of s) p x known on some))
                ∙ get_or-set_same x.roles r p 0 (omega arith);
            inside = hp;
          },
        )

-- after any number of parity positions
left_after_lem : (s : Settings) → Shape s → (x : Reduced) → length x.roles ≡ 16 → (flags : List ℕ) → length flags ≡ 16 → (e : ℕ)
    → e ≤ s.burst → (q : ℕ) → LeftOrPivot s flags (left_after s x flags e) (columns s (known_in s flags) x e) q
unfolding left_after columns
left_after_lem s h x sixteen flags many zero he q = inl refl
left_after_lem s h x sixteen flags many (suc e) he q =
    let p : ℕ = k_of s + e in
    let y : Reduced = columns s (known_in s flags) x e in
    let roles : length y.roles ≡ 16 = sixteen_roles s h (known_in s flags) x sixteen e in
    let left : List ℕ = left_after s x flags e in
    let flag : ℕ = left_flag (k_of s) (known_in s flags p) p y (get_or flags p 0) in
    let known : Bool = known_in s flags p in
    ⊎_elim
    (λ same.
    let set_here : get_or (set left p flag) q 0 ≡ flag =
    ap (λ (j : ℕ). get_or (set left p flag) j 0) same ∙ get_or-set_same left p flag 0 (omega (arith, left_length s x flags e)) in
    ⊎_elim (λ stays. inl (set_here ∙ stays ∙ ap (λ (j : ℕ). get_or flags j 0) (sym same)))
    (λ gone. inr (set_here ∙ gone.0, subst⁻¹ (Solved s (column_step (k_of s) known p y).roles) same gone.1))
    (left_here s h known p (omega arith) y roles (get_or flags p 0)))
    (λ other.
    let kept : get_or (set left p flag) q 0 ≡ get_or left q 0 = get_or-set_other left p q flag 0 other in
    ⊎_elim (λ stays. inl (kept ∙ stays)) (λ gone. inr (kept ∙ gone.0, solved_step s h known p y roles q gone.1))
    (left_after_lem s h x sixteen flags many e (omega arith) q))
    (same_or_other q p)

-- after elimination
pub left_or_pivot : (s : Settings) → T (accepted s) → (x : Reduced) → length x.roles ≡ 16 → (flags : List ℕ) → length flags ≡ 16
    → (q : ℕ) → LeftOrPivot s flags (left_from s x flags) (reduced_from s x flags) q
left_or_pivot s passed x sixteen flags many q =
    let on : accepted s ≡ true = is_true (accepted s) passed in
    rw (sym (left_accepted s x flags on), sym (reduced_accepted s x flags on))
    (left_after_lem s (shape s passed) x sixteen flags many s.burst (le_refl s.burst) q)

-- the flags of the sources stay
pub left_source : (s : Settings) → T (accepted s) → (x : Reduced) (flags : List ℕ) (q : ℕ) → q < k_of s
    → get_or (left_from s x flags) q 0 ≡ get_or flags q 0
left_source s passed x flags q source =
    rw (sym (left_accepted s x flags (is_true (accepted s) passed))) (left_kept s x flags s.burst q (λ j h same. omega arith))
