-- Below slot T there is no message yet; from then on the decision is the reply. Either way the slot due moves on.
use Rattle.std.specs.Prelude.{Ok}
use borrow.Author.Rules.{rules}
use borrow.Author.Tests.{lt-ltb, le-ltb}
use mathlib.Core.Path.{◌≡◌, ap, ap₂, ◌∙◌}
use mathlib.Core.List.{List}
use native.Mathlib.Omega.{arith}
use Prim.Native.Nat.{ℕ, ◌+◌, ◌-◌}
use lib.ListN.{replicate}
use Rattle.code.specs.Settings.{delay_of}
use Rattle.protocol.specs.declared.Receiver.{Receiver}
use Rattle.protocol.specs.Answers.{Reply}
use Rattle.protocol.specs.declared.Told.TheVariants.{NoneYet}
use Rattle.protocol.specs.Lengths.{last_slot}
use Rattle.protocol.specs.States.{reported_on}
use Rattle.protocol.specs.Verdict.{verdict, buffer_of}
use Rattle.protocol.specs.Calls.{Reported, message_due, told_by}
use Rattle.decision.proofs.CallOutcomes.{told}
use Rattle.receiver.proofs.report.moved_on.Goals as goal

told_by_lem : (x : Receiver) (rows : List ℕ) (next : Receiver) (r : Reply) (message : List ℕ) → next ≡ reported_on x
    → r ≡ (told_by x rows).reply → message ≡ buffer_of x.settings rows (x.due + 1) (message_due x.settings x.due) r
    → record { reply = r; receiver = next; rows = rows; message = message } ≡ told_by x rows
told_by_lem x rows next r message on told held =
    let made : Receiver → Reply → List ℕ → Reported = λ y q m. record { reply = q; receiver = y; rows = rows; message = m } in
    ap₂ (λ (y : Receiver) (m : List ℕ). made y r m) on held
    ∙ ap (λ (q : Reply). made (reported_on x) q (buffer_of x.settings rows (x.due + 1) (message_due x.settings x.due) q)) told

pub returns-then-x-delay : goal.returns-then-x-delay
unfolding buffer_of
returns-then-x-delay c =
    told_by_lem c.args.x c.args.rows.now c.next_receiver-state.result (Ok NoneYet) _ c.next_receiver-state.ensures
    (rw (lt-ltb c.args.x.due (delay_of c.args.x.settings) (omega arith)))
    (c.clear.ensures ∙ ap (λ (n : ℕ). replicate n 0) c.requires.3)

pub returns : goal.returns
unfolding message_due
returns c =
    let says = told c.args.x.settings c.args.rows.now (c.args.x.due + 1) (c.args.x.due - _) c.args.message.now c.requires.0 c.requires.2
    c.requires.3
    c.decide.result _ c.decide.ensures in
    told_by_lem c.args.x c.args.rows.now c.next_receiver-state.result c.decide.result _ c.next_receiver-state.ensures
    (rw (le-ltb c.args.x.due (delay_of c.args.x.settings) (omega arith))
    (says.0 ∙ ap (λ (d : ℕ). verdict c.args.x.settings c.args.rows.now (c.args.x.due + 1) (c.args.x.due - d))
    c.effective_delay-delay.ensures))
    (says.1 ∙ ap (λ (d : ℕ). buffer_of c.args.x.settings c.args.rows.now (c.args.x.due + 1) (c.args.x.due - d) c.decide.result)
    c.effective_delay-delay.ensures)

pub overflow_add-x : goal.overflow_add-x
unfolding last_slot
overflow_add-x c =
    search rules
