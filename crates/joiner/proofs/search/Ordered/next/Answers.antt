-- The recording ends, or has a frame there.
use borrow.Author.Tests.{lt-ltb, le-ltb}
use mathlib.Core.Path.{◌≡◌, ap, ◌∙◌}
use mathlib.Core.List.{List}
use native.Mathlib.Omega.{arith}
use Prim.Native.Nat.{ℕ, ◌<◌}
use Rattle.std.specs.Prelude.{Some}
use Rattle.code.specs.declared.settings.Settings.{Settings}
use Rattle.aerials.specs.Pair.{frames_in, slot_of}
use Rattle.aerials.specs.Parts.{below}
use Rattle.aerials.specs.Next.{next_in}
use Rattle.joiner.proofs.search.Ordered.next.Goals as goal

found : (s : Settings) (recording : List ℕ) (slot n m : ℕ) → n ≡ below s recording slot → n < frames_in s recording
    → m ≡ slot_of s recording n → Some m ≡ next_in s recording slot
unfolding next_in
found s recording slot n m place inside is =
    let before : below s recording slot < frames_in s recording = omega arith in
    rw (lt-ltb (below s recording slot) (frames_in s recording) before, next_in) (ap Some (is ∙ ap (slot_of s recording) place))

pub returns-then-n-len : goal.returns-then-n-len
returns-then-n-len c =
    found c.args.self.recorded.settings c.args.self.recorded.bytes.now c.args.slot c.below-n.result c.slot.result c.below-n.ensures
    (omega (arith, c.if-n-len.true, c.len.ensures)) c.slot.ensures

pub returns-else-n-len : goal.returns-else-n-len
unfolding next_in
returns-else-n-len c =
    rw (
      le-ltb (below c.args.self.recorded.settings c.args.self.recorded.bytes.now c.args.slot)
          (frames_in c.args.self.recorded.settings c.args.self.recorded.bytes.now)
          (omega (arith, c.if-n-len.false, c.len.ensures, c.below-n.ensures)),
      next_in,
    )
