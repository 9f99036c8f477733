-- The numbers are small: k + T is at most 32, and a row has at most 1025 bytes.
use mathlib.Core.Path.{◌≡◌, ap, ap₂, ◌∙◌}
use Prim.Native.Nat.{ℕ, ◌+◌, ◌-◌, ◌*◌, ◌%◌}
use native.Mathlib.Omega.{arith}
use Rattle.code.proofs.Shape.{shape}
use Rattle.protocol.specs.Lengths.{body_len, row_len, row_count}
use Rattle.protocol.specs.Verdict.{row_at}
use Rattle.places.proofs.Places.{body_few, row_few}
use Rattle.places.proofs.starts.first_start.Goals as goal

pub overflow_add-result : goal.overflow_add-result
unfolding row_count
overflow_add-result c = omega (arith, shape c.args.s c.requires.0)

pub overflow_sub-result : goal.overflow_sub-result
unfolding row_count
overflow_sub-result c = omega (arith, shape c.args.s c.requires.0)

pub nonzero_rem-result : goal.nonzero_rem-result
unfolding row_count
nonzero_rem-result c = omega (arith, shape c.args.s c.requires.0)

pub overflow_mul-result : goal.overflow_mul-result
unfolding row_len body_len row_count
overflow_mul-result c =
    let h = shape c.args.s c.requires.0 in
    omega (
      arith,
      row_few (c.args.t + c.row_count-count.result - c.args.i) c.row_count-count.result c.row_len.result
          (omega arith) (omega arith) (omega (arith, body_few c.args.s h)),
    )

pub returns : goal.returns
unfolding row_at
returns c =
    let zero : c.args.t ≡ c.args.t + 0 = omega arith in
    ap₂ (λ (n size : ℕ). (c.args.t + n - c.args.i) % n * size) c.row_count-count.ensures c.row_len.ensures
    ∙ ap (λ (t : ℕ). (t + row_count c.args.s - c.args.i) % row_count c.args.s * row_len c.args.s) zero
