-- No frame, all above, all below, or few between.
use mathlib.Core.Path.{◌≡◌, sym, ◌∙◌}
use native.Mathlib.Omega.{arith}
use Prim.Native.Nat.{suc, ◌-◌}
use Rattle.aerials.specs.Pair.{frames_in}
use Rattle.joiner.proofs.Halving.{narrow, none_there, none_below, all-below}
use Rattle.joiner.proofs.search.Ordered.below.Goals as goal

pub returns-then-count-eq0 : goal.returns-then-count-eq0
returns-then-count-eq0 c =
    none_there c.args.self.recorded.settings c.args.self.recorded.bytes.now c.args.slot (sym c.len-count.ensures ∙ c.if-count-eq0.true)

pub returns-then-slot-first : goal.returns-then-slot-first
returns-then-slot-first c =
    none_below c.args.self.recorded.settings c.args.self.recorded.bytes.now c.args.slot c.args.self.rises
    (omega (arith, c.slot-first.ensures, c.if-slot-first.true))

pub returns-then-last-slot : goal.returns-then-last-slot
returns-then-last-slot c =
    let some : frames_in c.args.self.recorded.settings c.args.self.recorded.bytes.now ≡ suc (c.len-count.result - 1) =
    omega (arith, c.len-count.ensures, c.if-count-eq0.false) in
    let all =
    all-below c.args.self.recorded.settings c.args.self.recorded.bytes.now c.args.slot c.args.self.rises (c.len-count.result - 1) some
    (omega (arith, c.slot-last.ensures, c.if-last-slot.true)) in
    omega (arith, all, some, c.len-count.ensures)

pub halve-requires : goal.halve-requires
halve-requires c =
    narrow c.args.self.recorded.settings c.args.self.recorded.bytes.now c.args.slot c.args.self.rises c.len-count.result c.slot-first.result
    c.slot-last.result _ _ c.len-count.ensures c.if-count-eq0.false c.slot-first.ensures c.slot-last.ensures c.if-slot-first.false
    c.if-last-slot.false c.saturating_sub-low.ensures c.min.ensures
