-- A cause that is found refuses the send; else the frame is written from the rows as they are, and then the message into them.
use Rattle.std.specs.Prelude.{Ok}
use mathlib.Core.Path.{◌≡◌, sym, ap, ◌∙◌}
use mathlib.Core.List.{List}
use Prim.Native.Nat.{ℕ}
use Rattle.protocol.specs.declared.Sender.{Sender}
use Rattle.protocol.specs.Answers.{Answer}
use Rattle.protocol.specs.Calls.{Sent}
use Rattle.protocol.specs.Causes.{send_cause}
use Rattle.protocol.proofs.Sending.{Sendable, clear_send}
use Rattle.sender.proofs.Outcomes.{unsent, sent}
use Rattle.sender.proofs.calls.send.Goals as goal

abbrev sending : Sender → List ℕ → List ℕ → Sent
sending x rows frame = record { answer = Ok tt; sender = x; rows = rows; frame = frame }

-- where no cause was found, none holds
can : (x : Sender) (rows message frame : List ℕ) (found : Answer) → found ≡ send_cause x rows message frame → found ≡ Ok tt
    → Sendable x rows message frame
can x rows message frame found is none = clear_send x rows message frame (sym is ∙ none)

pub returns-in-Err : goal.returns-in-Err
returns-in-Err c =
    ap (λ r. record { answer = r.answer; sender = r.state; rows = c.args.rows.now; frame = c.args.frame.now }) c.refused.ensures
    ∙ unsent c.args.x c.args.rows.now c.args.message.now c.args.frame.now _ (sym c.send_cause.ensures ∙ c.in-Err.is)

pub write_frame-requires : goal.write_frame-requires
write_frame-requires c =
    let h = can _ _ _ _ _ c.send_cause.ensures c.in_default.is in (h.settled, h.rows_exact, h.message_exact, h.frame_exact)

pub remember-requires : goal.remember-requires
remember-requires c =
    let h = can _ _ _ _ _ c.send_cause.ensures c.in_default.is in (h.settled, h.rows_exact, h.message_exact)

pub next_sender-requires : goal.next_sender-requires
next_sender-requires c =
    (can _ _ _ _ _ c.send_cause.ensures c.in_default.is).in_time_lem

pub returns : goal.returns
returns c =
    (λ i. sending (c.next_sender.ensures i) (c.remember.ensures i) (c.write_frame.ensures i))
    ∙ sent c.args.x c.args.rows.now c.args.message.now c.args.frame.now (sym c.send_cause.ensures ∙ c.in_default.is)
