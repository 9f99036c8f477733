-- Position p of the word stands inside row p.
use mathlib.Core.Path.{◌≡◌, subst⁻¹}
use native.Mathlib.Omega.{arith}
use Prim.Native.Nat.{ℕ, ◌+◌, ◌*◌, ◌<◌, ◌≤◌}
use lib.Arith.{digits_lt}
use lib.Dec.{T}
use lib.ListN.{length-set}
use Rattle.code.specs.declared.settings.Settings.{Settings}
use Rattle.code.specs.Settings.{n_of, accepted}
use Rattle.code.proofs.Shape.{Shape, shape}
use Rattle.protocol.specs.Lengths.{body_len, row_len, row_count, receiver_len}
use Rattle.places.proofs.Places.{rows_few}
use Rattle.patterns.proofs.arrive.Goals as goal

inside : (s : Settings) → T (accepted s) → s.lanes ≡ 1 → (p size : ℕ) → size ≡ row_len s → p < n_of s
    → (p * size + (1 + p) < receiver_len s) × (receiver_len s ≤ 32800) × (p < 16)
unfolding receiver_len row_count row_len body_len
inside s accepts one p size e below =
    let shaped : Shape s = shape s accepts in (
      subst⁻¹ (λ (m : ℕ). p * m + (1 + p) < receiver_len s) e
          (digits_lt (omega (arith, shaped.symbols_few)) (subst⁻¹ (λ (l : ℕ). 1 + p < 1 + n_of s * l) one (omega arith))),
      rows_few _ shaped,
      omega (arith, shaped.symbols_few),
    )

pub overflow_mul-rows : goal.overflow_mul-rows
overflow_mul-rows c =
    omega (arith, inside _ c.requires.0 c.requires.1 c.loop-p.p _ c.row_len-size.ensures (omega arith))

pub bounds-rows-p : goal.bounds-rows-p
bounds-rows-p c =
    omega (arith, inside _ c.requires.0 c.requires.1 c.loop-p.p _ c.row_len-size.ensures (omega arith))

pub bounds-flags-p : goal.bounds-flags-p
bounds-flags-p c =
    omega (arith, inside _ c.requires.0 c.requires.1 c.loop-p.p _ c.row_len-size.ensures (omega arith))

pub overflow_mul-rows-in-loop-p : goal.overflow_mul-rows-in-loop-p
overflow_mul-rows-in-loop-p c =
    omega (arith, inside _ c.requires.0 c.requires.1 c.loop-p.p _ c.row_len-size.ensures (omega arith))

pub overflow_add-rows : goal.overflow_add-rows
overflow_add-rows c =
    omega (arith, inside _ c.requires.0 c.requires.1 c.loop-p.p _ c.row_len-size.ensures (omega arith))

pub overflow_add-rows-in-loop-p : goal.overflow_add-rows-in-loop-p
overflow_add-rows-in-loop-p c =
    omega (arith, inside _ c.requires.0 c.requires.1 c.loop-p.p _ c.row_len-size.ensures (omega arith))

pub bounds-rows-p-in-loop-p : goal.bounds-rows-p-in-loop-p
bounds-rows-p-in-loop-p c =
    let i = inside _ c.requires.0 c.requires.1 c.loop-p.p _ c.row_len-size.ensures (omega arith) in
    simp length-set (omega arith)

pub bounds-bytes-p : goal.bounds-bytes-p
bounds-bytes-p c =
    omega (arith, inside _ c.requires.0 c.requires.1 c.loop-p.p _ c.row_len-size.ensures (omega arith))
