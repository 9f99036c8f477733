-- The frame is there, or the recording ends before it, or it is another slot's.
use borrow.Author.Tests.{eq-eqb, ne_eqb}
use mathlib.Core.Path.{◌≡◌, sym, ap, ◌∙◌}
use mathlib.Core.Bool.{true, false}
use mathlib.Core.List.{List}
use mathlib.Core.Logic.{◌≢◌}
use native.Mathlib.Omega.{arith}
use Prim.Native.Nat.{ℕ, ◌≤◌, ◌<◌}
use Rattle.std.specs.Prelude.{Some, None}
use Rattle.code.specs.declared.settings.Settings.{Settings}
use Rattle.aerials.specs.Pair.{frames_in, slot_of, has}
use Rattle.aerials.specs.Parts.{below}
use Rattle.aerials.specs.Sound.{Rising}
use Rattle.aerials.proofs.PartLaws.{none_behind, stands}
use Rattle.joiner.specs.Places.{place_in}
use Rattle.joiner.proofs.search.Ordered.place.Goals as goal
use Rattle.joiner.proofs.search.Ordered.place.Goals.{else-n-len-via-then-n-len+else-slot, else-n-len-via-else-n-len}

module _ (s : Settings) (recording : List ℕ) (rising : Rising s recording) (slot n : ℕ) (place : n ≡ below s recording slot) where
  there : n < frames_in s recording → slot_of s recording n ≡ slot → Some n ≡ place_in s recording slot
  unfolding place_in
  there inside is =
      let its : slot_of s recording (below s recording slot) ≡ slot = ap (slot_of s recording) (sym place) ∙ is in
      let had : has s recording slot ≡ true = sym (stands s recording rising slot (omega arith)) ∙ eq-eqb _ _ its in
      rw (had, place_in) (ap Some place)

  absent : has s recording slot ≡ false → None ≡ place_in s recording slot
  unfolding place_in
  absent none = rw (none, place_in)

  other : n < frames_in s recording → slot_of s recording n ≢ slot → None ≡ place_in s recording slot
  other inside differ =
      absent (sym (stands s recording rising slot (omega arith)) ∙ ne_eqb _ _ (λ e. differ (ap (slot_of s recording) place ∙ e)))

  ended : frames_in s recording ≤ n → None ≡ place_in s recording slot
  ended out = absent (none_behind s recording rising slot (omega arith))

pub returns-then-slot : goal.returns-then-slot
returns-then-slot c =
    there c.args.self.recorded.settings c.args.self.recorded.bytes.now c.args.self.rises c.args.slot c.below-n.result c.below-n.ensures
    (omega (arith, c.if-n-len.true, c.len.ensures)) (sym c.slot.ensures ∙ c.if-slot.true)

pub returns-else-n-len : goal.returns-else-n-len
returns-else-n-len c =
    elim c.else-n-len.branch [
      | else-n-len-via-then-n-len+else-slot w ↦
          other c.args.self.recorded.settings c.args.self.recorded.bytes.now c.args.self.rises c.args.slot c.below-n.result
          c.below-n.ensures (omega (arith, w.if-n-len.true, c.len.ensures)) (λ e. w.if-slot.false (w.slot.ensures ∙ e))
      | else-n-len-via-else-n-len w ↦
          ended c.args.self.recorded.settings c.args.self.recorded.bytes.now c.args.self.rises c.args.slot c.below-n.result
          c.below-n.ensures (omega (arith, w.if-n-len.false, c.len.ensures))
    ]
