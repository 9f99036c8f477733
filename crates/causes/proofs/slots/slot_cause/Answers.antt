-- Each way out is one entry of the table of a call in a slot.
use Rattle.std.specs.Prelude.{Ok, Err}
use borrow.Author.Tests.{lt-ltb, le-ltb}
use mathlib.Core.Path.{◌≡◌, sym, ◌∙◌}
use mathlib.Core.Bool.{Bool, true, false}
use Prim.Native.Nat.{ℕ, ◌≤◌, ◌<◌}
use Rattle.code.specs.declared.settings.Settings.{Settings}
use Rattle.code.specs.Settings.{accepted}
use Rattle.protocol.specs.declared.Cause.TheVariants.{BadSettings, BadLength, PastLastSlot}
use Rattle.protocol.specs.Lengths.{last_slot}
use Rattle.protocol.specs.Causes.{slot_cause}
use Rattle.causes.proofs.slots.slot_cause.Goals as goal

module _ (s : Settings) (exact : Bool) (due : ℕ) (test : Bool) (is : test ≡ accepted s) where
  unaccepted : test ≡ false → Err BadSettings ≡ slot_cause s exact due
  unfolding slot_cause
  unaccepted e = rw (sym is ∙ e)

  module _ (passed : test ≡ true) where
    inexact : exact ≡ false → Err BadLength ≡ slot_cause s exact due
    unfolding slot_cause
    inexact e = rw (sym is ∙ passed, e)

    past : exact ≡ true → last_slot < due → Err PastLastSlot ≡ slot_cause s exact due
    unfolding slot_cause
    past e late = rw (sym is ∙ passed, e, lt-ltb last_slot due late)

    in_time : exact ≡ true → due ≤ last_slot → (Ok tt) ≡ slot_cause s exact due
    unfolding slot_cause
    in_time e early = rw (sym is ∙ passed, e, le-ltb last_slot due early)

pub returns-then-not-accepted : goal.returns-then-not-accepted
returns-then-not-accepted c =
    unaccepted _ _ _ _ c.accepted.ensures c.if-not-accepted.true

pub returns-then-not-exact : goal.returns-then-not-exact
returns-then-not-exact c =
    inexact _ _ _ _ c.accepted.ensures c.if-not-accepted.false c.if-not-exact.true

pub returns-then-due : goal.returns-then-due
unfolding last_slot
returns-then-due c =
    past _ _ _ _ c.accepted.ensures c.if-not-accepted.false c.if-not-exact.false c.if-due.true

pub returns : goal.returns
unfolding last_slot
returns c =
    in_time _ _ _ _ c.accepted.ensures c.if-not-accepted.false c.if-not-exact.false c.if-due.false
