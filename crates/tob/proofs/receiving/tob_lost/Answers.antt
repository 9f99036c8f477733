-- A cause that the state gives refuses the report; else it is protocol's.
use mathlib.Core.Path.{sym, ap, ap₂, ◌∙◌}
use mathlib.Core.List.{List}
use native.Mathlib.Omega.{arith}
use Prim.Native.Nat.{ℕ}
use Rattle.protocol.specs.declared.Receiver.{Receiver}
use Rattle.protocol.specs.Histories.{accepts}
use Rattle.protocol.specs.Calls.{loss_of}
use Rattle.state.specs.State.{receiver_end, saved}
use Rattle.library.specs.Calls.{Reporting}
use Rattle.library.proofs.Outcomes.{report_left, lost_caused, lost_uncaused}
use Rattle.tob.proofs.Passed.{state_sized}
use Rattle.tob.proofs.receiving.tob_lost.Goals as goal

abbrev outcome : List ℕ → List ℕ → ℕ → List ℕ → Reporting
outcome rows message reply state = record { reply = reply; state = state; rows = rows; message = message }

pub returns-in-Err : goal.returns-in-Err
returns-in-Err c =
    ap (λ (n : ℕ). outcome c.args.rows.now c.args.message.now n c.args.state.now) c.from.ensures
    ∙ lost_caused c.args.state.now c.args.rows.now c.args.message.now _ (sym c.state_cause.ensures ∙ c.in-Err.is)

pub receiver_in-requires : goal.receiver_in-requires
receiver_in-requires c =
    omega (arith, state_sized receiver_end _ _ c.state_cause.ensures c.in_default.is)

pub save_reply-requires : goal.save_reply-requires
save_reply-requires c =
    state_sized receiver_end _ _ c.state_cause.ensures c.in_default.is

pub returns : goal.returns
returns c =
    ap₂ (outcome _ _) c.save_reply.ensures.number
    (c.save_reply.ensures.state
    ∙ ap (λ (bytes : List ℕ). saved (accepts c.loss-r.result.answer) bytes c.args.state.now) c.receiver_bytes.ensures)
    ∙ ap (report_left c.args.state.now)
    (c.loss-r.ensures
    ∙ ap (λ (x : Receiver). loss_of x c.args.rows.now c.args.message.now) c.receiver_in.ensures)
    ∙ lost_uncaused c.args.state.now c.args.rows.now c.args.message.now (sym c.state_cause.ensures ∙ c.in_default.is)
