-- The end, or a step at the part that is lent.
use mathlib.Core.Path.{sym, ap, ◌∙◌}
use mathlib.Core.List.{List}
use Prim.Native.Nat.{ℕ}
use Rattle.reporting.specs.Acts.{frame_act}
use Rattle.reporting.specs.Outcomes.{printed_on}
use Rattle.steps.proofs.StepOutcomes.{end_line}
use Rattle.pairplay.specs.Steps.{pair_step_of}
use Rattle.pairplay.proofs.PairActs.{pair_end, pair_frame}
use Rattle.pairs.proofs.Lent.{lent_long}
use Rattle.pairs.proofs.stepping.step.Goals as goal

pub at_frame-requires : goal.at_frame-requires
at_frame-requires c =
    let long = lent_long _ _ _ c.requires.0 _ _ (sym c.next_slot.ensures ∙ c.in-Some.is) in
    (rw c.part-frame.ensures.bytes long, c.requires.1)

pub returns-in-None : goal.returns-in-None
unfolding pair_step_of
returns-in-None c =
    let a = c.args in
    end_line a.line.now a.p a.rows.now a.message.now
    ∙ ap (printed_on a.line.now) (sym (pair_end a.p _ _ a.rows.now a.message.now (sym c.next_slot.ensures ∙ c.in-None.is)))

pub returns-in-Some : goal.returns-in-Some
unfolding pair_step_of
returns-in-Some c =
    let a = c.args in
    c.at_frame.ensures
    ∙ ap (λ (frame : List ℕ). printed_on a.line.now (frame_act a.p frame a.p.offset a.rows.now a.message.now)) c.part-frame.ensures.bytes
    ∙ ap (printed_on a.line.now) (sym (pair_frame a.p _ _ a.rows.now a.message.now _ (sym c.next_slot.ensures ∙ c.in-Some.is)))
