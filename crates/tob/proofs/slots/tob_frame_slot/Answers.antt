-- A cause leaves the lent slot as it was; else it is the slot of its header.
use Rattle.std.specs.Prelude.{Ok}
use mathlib.Core.Path.{◌≡◌, sym, ap, ap₂, ◌∙◌}
use native.Mathlib.Omega.{arith}
use Prim.Native.Nat.{ℕ}
use Rattle.protocol.specs.Answers.{Answer}
use Rattle.frames.specs.Fields.{slot_in, slot_read_cause}
use Rattle.library.specs.Calls.{read_by, frame_slot_bytes}
use Rattle.library.proofs.Slots.{frame_sized}
use Rattle.tob.proofs.slots.tob_frame_slot.Goals as goal

pub returns-in-Err : goal.returns-in-Err
unfolding frame_slot_bytes
returns-in-Err c =
    ap (λ (n : ℕ). record { reply = n; slot = c.args.slot.now }) c.from.ensures
    ∙ ap (λ (x : Answer). read_by x (slot_in c.args.frame.now) c.args.slot.now) (sym c.in-Err.is ∙ c.slot_read_cause.ensures)

pub slot_of-requires : goal.slot_of-requires
slot_of-requires c =
    let uncaused : (Ok tt) ≡ slot_read_cause c.args.frame.now = sym c.in_default.is ∙ c.slot_read_cause.ensures in
    omega (arith, frame_sized c.args.frame.now (sym (uncaused)))

pub returns : goal.returns
unfolding frame_slot_bytes
returns c =
    let uncaused : (Ok tt) ≡ slot_read_cause c.args.frame.now = sym c.in_default.is ∙ c.slot_read_cause.ensures in
    ap₂ (λ (x : Answer) (n : ℕ). read_by x n c.args.slot.now) (uncaused) c.slot_of.ensures
