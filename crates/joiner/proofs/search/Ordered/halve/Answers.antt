-- Each turn halves what lies between.
use mathlib.Core.Path.{sym, ◌∙◌}
use native.Mathlib.Omega.{arith}
use Prim.Native.Nat.{ℕ, ◌+◌, ◌-◌, ◌/◌, ◌<◌}
use Rattle.aerials.proofs.PartLaws.{below_at}
use Rattle.joiner.proofs.Halving.{up, down, closed}
use Rattle.joiner.proofs.search.Ordered.halve.Goals as goal

middle : (low high : ℕ) → low < high → low + (high - low) / 2 < high
middle low high h = omega arith

pub loop-bottom-init : goal.loop-bottom-init
loop-bottom-init c = c.requires

pub slot-here-requires : goal.slot-here-requires
slot-here-requires c =
    omega (arith, c.loop-bottom.invariant.within, middle c.loop-bottom.bottom c.loop-bottom.top c.loop-bottom-test.true)

pub returns-then-here-slot : goal.returns-then-here-slot
returns-then-here-slot c =
    let inside = middle c.loop-bottom.bottom c.loop-bottom.top c.loop-bottom-test.true in
    let found = below_at c.args.self.recorded.settings c.args.self.recorded.bytes.now c.args.self.rises
    (c.loop-bottom.bottom + (c.loop-bottom.top - c.loop-bottom.bottom) / 2)
    (omega (arith, inside, c.loop-bottom.invariant.within)) in
    sym (rw (sym c.slot-here.ensures ∙ c.if-here-slot.true) at found)

pub loop-bottom-preserved-then-here-slot-2 : goal.loop-bottom-preserved-then-here-slot-2
loop-bottom-preserved-then-here-slot-2 c =
    up c.args.self.recorded.settings c.args.self.recorded.bytes.now c.args.slot c.args.self.rises c.loop-bottom.bottom c.loop-bottom.top _
    c.loop-bottom.invariant (omega arith) (middle c.loop-bottom.bottom c.loop-bottom.top c.loop-bottom-test.true)
    (omega (arith, c.slot-here.ensures, c.if-here-slot-2.true))

pub loop-bottom-preserved : goal.loop-bottom-preserved
loop-bottom-preserved c =
    down c.args.self.recorded.settings c.args.self.recorded.bytes.now c.args.slot c.args.self.rises c.loop-bottom.bottom c.loop-bottom.top _
    c.loop-bottom.invariant (omega arith) (middle c.loop-bottom.bottom c.loop-bottom.top c.loop-bottom-test.true)
    (omega (arith, c.slot-here.ensures, c.if-here-slot-2.false))

pub returns : goal.returns
returns c =
    closed c.args.self.recorded.settings c.args.self.recorded.bytes.now c.args.slot c.loop-bottom.bottom c.loop-bottom.top
    c.loop-bottom.invariant c.loop-bottom-test.false
