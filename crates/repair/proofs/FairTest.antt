-- Fairness computes: its test passes exactly where every stretch of at most W slots is fair.
use mathlib.Core.Path.{◌≡◌}
use mathlib.Core.Bool.{Bool}
use mathlib.Core.Logic.{◌↔◌}
use Prim.Native.Nat.{ℕ, ◌+◌, ◌-◌}
use native.Mathlib.Omega.{arith}
use lib.Dec.{T}
use Rattle.galois.specs.Bounded.{every}
use Rattle.galois.proofs.Cases.{at, all-below}
use Rattle.code.specs.declared.settings.Settings.{Settings}
use Rattle.repair.specs.Fair.{fair_stretch, Fair, fair_slots}

pub fair_tested : (s : Settings) (lost : ℕ → Bool) (low high : ℕ) → T (fair_slots s lost low high) ↔ Fair s lost low high
unfolding fair_slots
fair_tested s lost low high =
    let starts : ℕ → ℕ = λ m. high + 2 - low - m in
    let fair : ℕ → ℕ → Bool = λ m x. fair_stretch s lost (low + x) m in (
      λ test a m from to size.
          let here : low + (a - low) ≡ a = omega arith in
          rw here at
          (at (starts m) (fair m) (at (s.window + 1) (λ m. every (starts m) (fair m)) test m (omega arith)) (a - low) (omega arith)),
      λ all.
          all-below (s.window + 1) (λ m. every (starts m) (fair m))
          (λ m size. all-below (starts m) (fair m) (λ x h. all (low + x) m (omega arith) (omega arith) (omega arith))),
    )
