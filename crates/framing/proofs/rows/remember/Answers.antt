-- The row lies within the rows, since it is below n - 1.
use mathlib.Core.Path.{◌≡◌, ap, ap₂, ◌∙◌}
use mathlib.Core.List.{◌++◌}
use native.Mathlib.Nat.{mod-lt}
use native.Mathlib.Omega.{arith}
use Prim.Native.Nat.{ℕ, ◌+◌, ◌-◌, ◌*◌, ◌%◌, ◌≤◌, ◌<◌}
use lib.Dec.{T}
use lib.ListN.{take, drop}
use Rattle.code.specs.declared.settings.Settings.{Settings}
use Rattle.code.specs.Settings.{accepted, n_of}
use Rattle.code.proofs.Shape.{Shape, shape}
use Rattle.protocol.specs.Lengths.{message_len, sender_len}
use Rattle.protocol.specs.Rows.{put_row}
use Rattle.parity.proofs.Places.{rows_few, row_ends}
use Rattle.framing.proofs.rows.remember.Goals as goal

-- where the row stands that is written, and that there are few rows
placed : (s : Settings) (due symbols size : ℕ) → T (accepted s) → symbols ≡ n_of s → size ≡ message_len s
    → (due % (symbols - 1) * size + size ≤ sender_len s) × (sender_len s ≤ 15360)
placed s due symbols size passed is exact =
    let h : Shape s = shape s passed in
    let below : due % (symbols - 1) < symbols - 1 = mod-lt due (omega arith) in
    let long = ap (λ (m : ℕ). due % (symbols - 1) * m) exact in
    (omega (arith, row_ends s h (due % (symbols - 1)) (omega arith)), rows_few s h)

pub overflow_mul-start : goal.overflow_mul-start
overflow_mul-start c = omega (arith, placed c.args.s c.args.due c.symbols.result _ c.requires.0 c.symbols.ensures c.requires.2)

pub write_at-requires : goal.write_at-requires
write_at-requires c = omega (arith, placed c.args.s c.args.due c.symbols.result _ c.requires.0 c.symbols.ensures c.requires.2)

pub returns : goal.returns
unfolding put_row
returns c =
    let a = c.args in
    c.write_at.ensures
    ∙ ap₂
    (λ (n m : ℕ). take (a.due % (n - 1) * m) a.rows.now ++ a.message.now ++ drop (a.due % (n - 1) * m + m) a.rows.now)
    c.symbols.ensures c.requires.2
