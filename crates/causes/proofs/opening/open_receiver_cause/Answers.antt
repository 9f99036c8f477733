-- Its table is the opening's, with the slot below it.
use Rattle.std.specs.Prelude.{Ok}
use borrow.Author.Tests.{lt-ltb, le-ltb}
use mathlib.Core.Path.{◌≡◌, sym, ap, ◌∙◌}
use mathlib.Core.Bool.{Bool}
use mathlib.Core.List.{[], List, ◌∷◌}
use Prim.Native.Nat.{ℕ}
use lib.Dec.{ltb}
use Rattle.code.specs.declared.settings.Settings.{Settings}
use Rattle.protocol.specs.declared.Cause.TheVariants.{LateOpening}
use Rattle.protocol.specs.Answers.{Answer}
use Rattle.protocol.specs.Lengths.{last_slot, receiver_len}
use Rattle.protocol.specs.Causes.{check, row, open_table, open_cause, open_receiver_cause}
use Rattle.protocol.proofs.QuestionMark.{refused_for}
use Rattle.protocol.proofs.CauseTables.{followed_by, one_below}
use Rattle.causes.proofs.opening.open_receiver_cause.Goals as goal

-- the table, once the opening's part has been looked through
found : (s : Settings) (slot : ℕ) (rows : List ℕ) (size : ℕ) (was a : Answer) → size ≡ receiver_len s → was ≡ open_cause s size rows
    → was ≡ a → open_receiver_cause s slot rows ≡ followed_by a (check (ltb last_slot slot) LateOpening (Ok tt))
unfolding open_cause open_receiver_cause
found s slot rows size was a is is-was e =
    let late : Bool = ltb last_slot slot in
    one_below (open_table s (receiver_len s) rows) (row late LateOpening ∷ [])
    ∙ ap (λ (b : Answer). followed_by b (check late LateOpening (Ok tt)))
    (sym (is-was ∙ ap (λ (n : ℕ). open_cause s n rows) is) ∙ e)

pub returns-in_err-open_cause : goal.returns-in_err-open_cause
returns-in_err-open_cause c =
    let a = c.args in
    refused_for _ _ c.from_residual.ensures.1
    ∙ sym (found a.s a.slot a.rows.now _ _ _ c.receiver_len.ensures c.open_cause.ensures c.in_err-open_cause.was)

pub returns-then-slot : goal.returns-then-slot
unfolding last_slot
returns-then-slot c =
    let a = c.args in
    rw (
      found a.s a.slot a.rows.now _ _ (Ok tt) c.receiver_len.ensures c.open_cause.ensures c.in_ok-open_cause.was,
      lt-ltb last_slot a.slot c.if-slot.true,
    )

pub returns : goal.returns
unfolding last_slot
returns c =
    let a = c.args in
    rw (
      found a.s a.slot a.rows.now _ _ (Ok tt) c.receiver_len.ensures c.open_cause.ensures c.in_ok-open_cause.was,
      le-ltb last_slot a.slot c.if-slot.false,
    )
