-- The L bytes at the position are those of all lanes there.
use mathlib.Core.Path.{ap, sym, ◌∙◌}
use native.Mathlib.Omega.{arith}
use lib.ListN.{length}
use Rattle.galois.proofs.ByIndex.{length-table}
use Rattle.copying.proofs.Whole.{whole}
use Rattle.lanes.proofs.symbol.write_own.Goals as goal

pub write_at-requires : goal.write_at-requires
write_at-requires c =
    let same = c.requires.1 ∙ sym (ap length c.symbol.ensures ∙ length-table _ _) in
    omega arith

pub returns : goal.returns
returns c =
    let same = c.requires.1 ∙ sym (ap length c.symbol.ensures ∙ length-table _ _) in
    c.write_at.ensures ∙ whole _ _ same ∙ c.symbol.ensures
