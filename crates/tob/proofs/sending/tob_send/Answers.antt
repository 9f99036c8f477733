-- A cause that the state gives refuses the send; else it is protocol's.
use mathlib.Core.Path.{sym, ap, ap₂, ◌∙◌}
use mathlib.Core.List.{List}
use native.Mathlib.Omega.{arith}
use Prim.Native.Nat.{ℕ}
use Rattle.protocol.specs.declared.Sender.{Sender}
use Rattle.protocol.specs.Calls.{send_of}
use Rattle.state.specs.State.{sender_end, saved}
use Rattle.protocol.specs.Histories.{is_accepted}
use Rattle.library.specs.Calls.{Sending}
use Rattle.library.proofs.Outcomes.{send_left, send_caused, send_uncaused}
use Rattle.tob.proofs.Passed.{state_sized}
use Rattle.tob.proofs.sending.tob_send.Goals as goal

abbrev outcome : List ℕ → List ℕ → ℕ → List ℕ → Sending
outcome rows frame reply state = record { reply = reply; state = state; rows = rows; frame = frame }

pub returns-in-Err : goal.returns-in-Err
returns-in-Err c =
    ap (λ (n : ℕ). outcome c.args.rows.now c.args.frame.now n c.args.state.now) c.from.ensures
    ∙ send_caused c.args.state.now c.args.rows.now c.args.message.now c.args.frame.now _ (sym c.state_cause.ensures ∙ c.in-Err.is)

pub sender_in-requires : goal.sender_in-requires
sender_in-requires c =
    omega (arith, state_sized sender_end _ _ c.state_cause.ensures c.in_default.is)

pub save_answer-requires : goal.save_answer-requires
save_answer-requires c =
    state_sized sender_end _ _ c.state_cause.ensures c.in_default.is

pub returns : goal.returns
returns c =
    ap₂ (outcome _ _) c.save_answer.ensures.number
    (c.save_answer.ensures.state
    ∙ ap (λ (bytes : List ℕ). saved (is_accepted c.send-r.result.answer) bytes c.args.state.now) c.sender_bytes.ensures)
    ∙ ap (send_left c.args.state.now)
    (c.send-r.ensures
    ∙ ap (λ (x : Sender). send_of x c.args.rows.now c.args.message.now c.args.frame.now) c.sender_in.ensures)
    ∙ send_uncaused c.args.state.now c.args.rows.now c.args.message.now c.args.frame.now (sym c.state_cause.ensures ∙ c.in_default.is)
