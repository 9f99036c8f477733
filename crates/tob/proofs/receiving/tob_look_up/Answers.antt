-- A cause that the state gives refuses the look_up; else it is protocol's, and its number is the reply.
use mathlib.Core.Path.{sym, ap, ap₂, ◌∙◌}
use mathlib.Core.List.{List}
use native.Mathlib.Omega.{arith}
use Prim.Native.Nat.{ℕ}
use lib.IntN.{ℤ}
use mir.Syntax.{w64}
use mir.ValLaws.{to_z-of_z}
use Rattle.protocol.specs.declared.Receiver.{Receiver}
use Rattle.protocol.specs.Calls.{look_up_of}
use Rattle.state.specs.State.{receiver_end}
use Rattle.library.specs.Calls.{Looking, looked_bytes}
use Rattle.library.proofs.Outcomes.{look_up_caused, look_up_uncaused}
use Rattle.tob.proofs.Passed.{state_sized}
use Rattle.tob.proofs.receiving.tob_look_up.Goals as goal

abbrev outcome : List ℕ → ℕ → Looking
outcome message reply = record { reply = reply; message = message }

pub returns-in-Err : goal.returns-in-Err
returns-in-Err c =
    ap (outcome c.args.message.now) c.from.ensures
    ∙ look_up_caused c.args.state.now c.args.rows.now c.args.message.now c.args.number _
    (sym c.state_cause.ensures ∙ c.in-Err.is)

pub receiver_in-requires : goal.receiver_in-requires
receiver_in-requires c =
    omega (arith, state_sized receiver_end _ _ c.state_cause.ensures c.in_default.is)

pub returns : goal.returns
returns c =
    ap (outcome _) c.reply_number.ensures
    ∙ ap looked_bytes
    (c.look_up.ensures
    ∙ ap₂ (λ (x : Receiver) (z : ℤ). look_up_of x c.args.rows.now z c.args.message.now) c.receiver_in.ensures
    (to_z-of_z w64 c.args.number c.ranges.number))
    ∙ look_up_uncaused c.args.state.now c.args.rows.now c.args.message.now c.args.number (sym c.state_cause.ensures ∙ c.in_default.is)
