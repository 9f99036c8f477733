-- A source symbol stands in its row.
use mathlib.Core.Path.{◌≡◌, ap, ◌∙◌}
use native.Mathlib.Omega.{arith}
use Prim.Native.Nat.{ℕ, ◌+◌, ◌-◌, ◌*◌, ◌≤◌, ◌<◌}
use lib.Dec.{T}
use Rattle.code.specs.declared.settings.Settings.{Settings}
use Rattle.code.specs.Settings.{accepted, k_of, n_of}
use Rattle.code.proofs.Shape.{Shape, shape}
use Rattle.protocol.specs.Lengths.{message_len}
use Rattle.parity.proofs.Places.{rows_few, source_ends}
use Rattle.parity.proofs.Gathered.{source_inside, source_past}
use Rattle.parity.proofs.sources.source.Goals as goal

-- a symbol ends within the rows, which are few
few : (s : Settings) (row i m : ℕ) → T (accepted s) → row < n_of s - 1 → i < k_of s → m ≡ message_len s
    → row * m + i * s.lanes ≤ 15360
few s row i m passed below inside is =
    let shaped : Shape s = shape s passed in
    let placed : row * m ≡ row * message_len s = ap (λ (n : ℕ). row * n) is in
    omega (arith, source_ends s shaped row i below inside, rows_few s shaped)

pub overflow_mul-result : goal.overflow_mul-result
overflow_mul-result c =
    omega (arith, few _ _ c.args.i _ c.requires.0 c.requires.1 (omega arith) c.message_len.ensures)

pub overflow_mul-result-then-i-sources : goal.overflow_mul-result-then-i-sources
overflow_mul-result-then-i-sources c =
    omega (arith, few _ _ c.args.i _ c.requires.0 c.requires.1 (omega arith) c.message_len.ensures)

pub overflow_add-result : goal.overflow_add-result
overflow_add-result c =
    omega (arith, few _ _ c.args.i _ c.requires.0 c.requires.1 (omega arith) c.message_len.ensures)

pub returns-then-i-sources : goal.returns-then-i-sources
returns-then-i-sources c =
    let a = c.args in
    ap (λ (m : ℕ). record { start = a.row * m + a.i * a.s.lanes; keep = 255 }) c.message_len.ensures
    ∙ source_inside a.s a.row a.i (omega arith)

pub returns-else-i-sources : goal.returns-else-i-sources
returns-else-i-sources c = source_past c.args.s c.args.row c.args.i (omega arith)
