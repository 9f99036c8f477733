-- The loop fills the matrix row by row; the rows behind are zeros, as G's are past its last.
use mathlib.Core.List.{[]}
use mathlib.Core.Logic.{⊎_elim}
use mathlib.Core.Path.{refl, sym, ◌∙◌}
use native.Mathlib.Nat.{not-suc-le-zero}
use native.Mathlib.Omega.{arith}
use Prim.Native.Nat.{zero-le}
use lib.ListN.{length-set, get_or-replicate}
use lib.Seq.{get_or-set_other}
use Rattle.code.specs.Matrix.{entry}
use Rattle.code.proofs.Entries.{entry_row_outside}
use Rattle.generator.specs.Matrix.{generator_of}
use Rattle.galois.specs.Table.{table}
use Rattle.galois.proofs.ByIndex.{is_table, filled_more, table_equal}
use Rattle.galois.proofs.Cases.{le_or_lt}
use Rattle.generator.proofs.matrix.generator.Goals as goal

pub loop-i-init : goal.loop-i-init
unfolding table
loop-i-init c =
    (zero-le, refl, λ r h. absurd (not-suc-le-zero h), λ r low h. get_or-replicate 16 r _ [] h)

pub loop-i-preserved : goal.loop-i-preserved
loop-i-preserved c = (
  omega arith,
  simp length-set c.loop-i.invariant.1,
  filled_more (λ r. table 16 (λ j. entry c.args.s r j)) [] c.loop-i.rows c.loop-i.i c.generator_row.result (omega arith)
      c.generator_row.ensures c.loop-i.invariant.2,
  λ r low h. get_or-set_other c.loop-i.rows c.loop-i.i r c.generator_row.result [] (λ same. omega arith)
      ∙ c.loop-i.invariant.3 r (omega arith) h,
)

pub returns : goal.returns
unfolding generator_of
returns c =
    is_table 16 (λ r. table 16 (λ j. entry c.args.s r j)) [] c.loop-i.rows c.loop-i.invariant.1
    (λ r h.
    ⊎_elim
    (λ past.
    c.loop-i.invariant.3 r past h
    ∙ table_equal 16 (λ j. 0) (λ j. entry c.args.s r j) (λ j _. sym (entry_row_outside c.args.s r j (omega arith))))
    (λ done. c.loop-i.invariant.2 r done) (le_or_lt c.loop-i.i r))
