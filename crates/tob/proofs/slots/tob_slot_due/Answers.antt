-- A cause leaves the lent slot as it was; else it is the slot that the state keeps.
use Rattle.std.specs.Prelude.{Ok}
use mathlib.Core.Path.{◌≡◌, sym, ap, ap₂, ◌∙◌}
use native.Mathlib.Omega.{arith}
use Prim.Native.Nat.{ℕ}
use Rattle.protocol.specs.Answers.{Answer}
use Rattle.frames.specs.Fields.{slot_at}
use Rattle.state.specs.State.{due_read_cause}
use Rattle.library.specs.Calls.{read_by, slot_due_bytes}
use Rattle.library.proofs.Slots.{due_sized}
use Rattle.tob.proofs.slots.tob_slot_due.Goals as goal

pub returns-in-Err : goal.returns-in-Err
unfolding slot_due_bytes
returns-in-Err c =
    ap (λ (n : ℕ). record { reply = n; slot = c.args.slot.now }) c.from.ensures
    ∙ ap (λ (x : Answer). read_by x (slot_at 9 c.args.state.now) c.args.slot.now) (sym c.in-Err.is ∙ c.due_read_cause.ensures)

pub slot_at-requires : goal.slot_at-requires
slot_at-requires c =
    let uncaused : (Ok tt) ≡ due_read_cause c.args.state.now = sym c.in_default.is ∙ c.due_read_cause.ensures in
    omega (arith, due_sized c.args.state.now (sym (uncaused)))

pub returns : goal.returns
unfolding slot_due_bytes
returns c =
    let uncaused : (Ok tt) ≡ due_read_cause c.args.state.now = sym c.in_default.is ∙ c.due_read_cause.ensures in
    ap₂ (λ (x : Answer) (n : ℕ). read_by x n c.args.slot.now) (uncaused) c.slot_at.ensures
