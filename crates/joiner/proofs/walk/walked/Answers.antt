-- Each turn looks at one frame.
use mathlib.Core.Path.{◌≡◌, ap, ◌∙◌}
use mathlib.Core.List.{List}
use native.Mathlib.Nat.{le_antisymm}
use native.Mathlib.Omega.{arith}
use Prim.Native.Nat.{ℕ, suc, ◌+◌}
use lib.ListN.{drop}
use Rattle.code.specs.declared.settings.Settings.{Settings}
use Rattle.protocol.specs.Frame.{mark, five}
use Rattle.protocol.specs.Causes.{agree}
use Rattle.protocol.proofs.HeaderTests.{mark_test, five_test}
use Rattle.aerials.specs.Pair.{other_mark, other_settings, falling}
use Rattle.joiner.proofs.Walking.{none_walked, one_more}
use Rattle.joiner.proofs.walk.walked.Goals as goal

pub loop-n-init : goal.loop-n-init
loop-n-init c = (c.len-n-end.ensures, c.header_bytes-head.ensures, none_walked c.args.s c.args.bytes.now)

pub loop-n-preserved : goal.loop-n-preserved
loop-n-preserved c =
    let next : c.loop-n.n + 1 ≡ suc c.loop-n.n = omega arith in
    let s : Settings = c.args.s in
    let (count, head, walked) = c.loop-n.invariant in (
      count,
      head,
      rw next
          (one_more s c.args.bytes.now c.loop-n.n c.loop-n.mark c.loop-n.settings c.loop-n.falling c.loop-n.least c.from-slot.result
          c.agrees.result c.agrees-in-loop-n.result walked
          (c.agrees.ensures ∙ mark_test 1 s 0 c.frame-frame.result.now _ head
          ∙ ap (λ (l : List ℕ). agree 5 l (mark 1)) c.frame-frame.ensures.bytes)
          (c.agrees-in-loop-n.ensures ∙ five_test 1 s 0 c.frame-frame.result.now _ head
          ∙ ap (λ (l : List ℕ). agree 5 (drop 5 l) (five s)) c.frame-frame.ensures.bytes)
          (c.from-slot.ensures ∙ c.slot.ensures)),
    )

pub returns : goal.returns
unfolding other_mark other_settings falling
returns c =
    let n = le_antisymm c.loop-n.auto.n-end c.loop-n-test.false ∙ c.len-n-end.ensures in
    let walked = c.loop-n.invariant.2 in
    rw (← n) (record { mark = walked.marked; settings = walked.settled; falling = walked.fell })
