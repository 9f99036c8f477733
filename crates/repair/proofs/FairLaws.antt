-- Document 02 §1: what was fair by document 01's rule is fair; and losses that are among fair ones are fair.
use mathlib.Core.Bool.{Bool, true, false, ◌&&◌, beq}
use mathlib.Core.Logic.{inl, inr, ⊎_elim}
use mathlib.Core.Path.{◌≡◌, subst⁻¹}
use Prim.Native.Nat.{ℕ, ◌+◌, ◌-◌, ◌≤◌, ◌<◌}
use native.Mathlib.Omega.{arith}
use lib.Dec.{T, leb, ltb, leb→le, ltb→lt}
use Rattle.galois.specs.Bounded.{any}
use Rattle.galois.proofs.Cases.{and_left, and_right, or_cases, at, any_at}
use Rattle.galois.proofs.Counting.{count_mono}
use Rattle.code.specs.declared.settings.Settings.{Settings}
use Rattle.repair.specs.Fair.{losses, fair_stretch, Fair}
use Rattle.repair.specs.FairBefore.{run_at, one_run, stretch_before, FairBefore}
use Rattle.repair.proofs.Stretch.{LostIn, Close, fair_stretch_lem}

-- ---- document 01's rule

-- of two equal tests, the second passes where the first does
same_passed : (p q : Bool) → T (beq p q) → T p → T q
same_passed true true e t = tt
same_passed true false e t = e
same_passed false q e t = absurd t

-- a loss of a stretch whose losses are the slots r to r + len - 1 of it is one of these
in_run : (lost : ℕ → Bool) (a m r len : ℕ) → T (run_at lost a m r len)
    → (y : ℕ) → LostIn lost a m y → (a + r ≤ y) × (y < a + (r + len))
unfolding run_at
in_run lost a m r len run y l =
    let x : ℕ = y - a in
    let here : a + x ≡ y = omega (arith, l.0) in
    let inside : T (leb r x && ltb x (r + len)) =
    same_passed (lost (a + x)) (leb r x && ltb x (r + len))
    (at m (λ x. beq (lost (a + x)) (leb r x && ltb x (r + len))) run x (omega (arith, l.0, l.1)))
    (subst⁻¹ (λ (z : ℕ). T (lost z)) here l.2) in
    let from : r ≤ x = leb→le r x (and_left (leb r x) (ltb x (r + len)) inside) in
    let to : x < r + len = ltb→lt x (r + len) (and_right (leb r x) (ltb x (r + len)) inside) in
    (omega arith, omega arith)

-- any two slots of one unbroken run of at most B are at most B - 1 slots apart
run_close : (B : ℕ) (lost : ℕ → Bool) (a m : ℕ) → T (one_run B lost a m) → Close (B - 1) lost a m
unfolding one_run
run_close B lost a m t y z ly lz =
    let start = any_at (m + 1) (λ r. any (B + 1) (λ len. run_at lost a m r len)) t in
    let long = any_at (B + 1) (λ len. run_at lost a m start.0 len) start.2 in
    let in-it = in_run lost a m start.0 long.0 long.2 in
    omega (arith, long.1, in-it y ly, in-it z lz)

-- a stretch that was fair is fair
stretch_before_lem : (s : Settings) (lost : ℕ → Bool) (a m : ℕ) → T (stretch_before s lost a m) → T (fair_stretch s lost a m)
unfolding stretch_before
stretch_before_lem s lost a m t =
    (fair_stretch_lem s lost a m).1
    (⊎_elim (λ sparse. inl (leb→le (losses lost a m) s.scattered sparse)) (λ run. inr (run_close s.burst lost a m run))
    (or_cases (leb (losses lost a m) s.scattered) (one_run s.burst lost a m) t))

-- what was fair by document 01's rule is fair
pub fair_before : (s : Settings) (lost : ℕ → Bool) (low high : ℕ) → FairBefore s lost low high → Fair s lost low high
fair_before s lost low high before a m from to size = stretch_before_lem s lost a m (before a m from to (omega arith))

-- ---- fewer losses

-- where each slot lost is one of a fair stretch's losses, the stretch is fair
fewer_stretch : (s : Settings) (fewer lost : ℕ → Bool) (a m : ℕ)
    → ((y : ℕ) → LostIn fewer a m y → T (lost y)) → T (fair_stretch s lost a m) → T (fair_stretch s fewer a m)
unfolding losses
fewer_stretch s fewer lost a m among t =
    let kept : (y : ℕ) → LostIn fewer a m y → LostIn lost a m y = λ y l. (l.0, l.1, among y l) in
    (fair_stretch_lem s fewer a m).1
    (⊎_elim
    (λ sparse.
    inl
    (omega (arith, count_mono m (λ x. fewer (a + x)) (λ x. lost (a + x)) (λ x h t. among (a + x) (omega arith, omega arith, t)))))
    (λ close. inr (λ y z ly lz. close y z (kept y ly) (kept z lz)))
    ((fair_stretch_lem s lost a m).0 t))

-- dropping losses keeps slots fair: where each slot lost is one of fair losses, the slots are fair
pub fewer_fair : (s : Settings) (fewer lost : ℕ → Bool) (low high : ℕ)
    → ((y : ℕ) → low ≤ y → y ≤ high → T (fewer y) → T (lost y)) → Fair s lost low high → Fair s fewer low high
fewer_fair s fewer lost low high among fair a m from to size =
    fewer_stretch s fewer lost a m (λ y l. among y (omega (arith, l.0)) (omega (arith, l.1)) l.2) (fair a m from to size)
