-- The rows are done from the last source symbol down: at i, rows i and up are the systematic form's.
use mathlib.Core.List.{[], List}
use mathlib.Core.Path.{◌≡◌, refl, sym, ◌∙◌, subst⁻¹}
use mathlib.Core.Logic.{⊎_elim}
use lib.Dec.{T}
use native.Mathlib.Omega.{arith}
use Prim.Native.Nat.{ℕ, ◌+◌, ◌-◌, ◌<◌, ◌≤◌}
use lib.ListN.{get_or, length-set}
use Rattle.galois.specs.Table.{table}
use Rattle.code.specs.Word.{symbol, unit}
use Rattle.code.proofs.Shape.{shape}
use Rattle.galois.proofs.ByIndex.{is_table, get_or-table, table_equal}
use Rattle.code.proofs.Systematic.{unit_outside, systematic_accepted, systematic_refused}
use Rattle.generator.proofs.Filled.{filled_before}
use Rattle.generator.proofs.BackSubstitution.{band_end_lem, row_done}
use Rattle.encoder.proofs.systematic.Goals as goal

pub returns-then-not-accepted : goal.returns-then-not-accepted
unfolding table
returns-then-not-accepted c =
    systematic_refused c.args.s (sym c.accepted.ensures ∙ c.if-not-accepted.true)

pub loop-i-init : goal.loop-i-init
unfolding table
loop-i-init c =
    let shaped = shape c.args.s (subst⁻¹ T (sym c.accepted.ensures ∙ c.if-not-accepted.false) tt) in (
      shaped,
      refl,
      λ r h below.
          get_or-table 16 (λ i. table 16 (λ p. 0)) r [] below
          ∙ table_equal 16 (λ p. 0) (symbol c.args.s (unit r)) (λ p _. sym (unit_outside c.args.s shaped r p (omega arith))),
    )

pub cancelled-requires : goal.cancelled-requires
cancelled-requires c =
    let ends = band_end_lem c.args.s (c.loop-i.i - 1) in
    (⊎_elim (λ k. omega arith) (λ k. omega arith) ends.2, omega arith)

pub loop-i-preserved : goal.loop-i-preserved
loop-i-preserved c =
    let j : ℕ = c.loop-i.i - 1 in
    let f : ℕ → List ℕ = λ r. table 16 (symbol c.args.s (unit r)) in
    let rows_after : (r : ℕ) → j + 1 ≤ r → r < 16 → get_or c.loop-i.rows r [] ≡ f r =
    λ r h below. c.loop-i.invariant.2 r (omega arith) below in
    let done : c.cancelled.result ≡ f j =
    row_done c.args.s c.loop-i.invariant.0 j (omega arith) c.generator-g.result c.loop-i.rows c.band_end.result
    c.generator-g.ensures c.band_end.ensures rows_after
    c.cancelled.result c.cancelled.ensures in (
      c.loop-i.invariant.0,
      simp length-set c.loop-i.invariant.1,
      filled_before 16 f [] c.loop-i.rows j c.cancelled.result (omega arith) done rows_after,
    )

pub returns : goal.returns
returns c =
    is_table 16 (λ i. table 16 (λ p. symbol c.args.s (unit i) p)) [] c.loop-i.rows c.loop-i.invariant.1
    (λ i h. c.loop-i.invariant.2 i (omega arith) h)
    ∙ systematic_accepted c.args.s (sym c.accepted.ensures ∙ c.if-not-accepted.false)
