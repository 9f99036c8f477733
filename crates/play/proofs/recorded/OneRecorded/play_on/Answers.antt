-- There is room for the longest line, so each filling that is not the last leaves fewer steps.
use Rattle.std.proofs.Common.{◌≡◌, false, ℕ, ◌≤◌, ◌<◌, List, length, sym, ap, ◌∙◌, subst}
use Rattle.lines.specs.Lent.{longest}
use Rattle.progress.specs.declared.Player.{Player}
use Rattle.reporting.specs.Outcomes.{Outcome, outcome}
use Rattle.player.specs.Filling.{filled_of}
use Rattle.player.proofs.LoopLaws.{filled_fits, filled_fewer}
use Rattle.player.proofs.StepsLeft.{steps_left}
use Rattle.play.proofs.recorded.OneRecorded.play_on.Goals as goal

module _ (p : Player) (recording rows message out : List ℕ) (made : Outcome) (filled : made ≡ filled_of p recording rows message out) where
  made_fits : length made.out ≡ length out → made.len ≤ length out
  made_fits kept =
      subst (λ (r : Outcome). r.len ≤ length out) (sym filled)
      (filled_fits p recording rows message out (sym (ap (λ (r : Outcome). length r.out) filled) ∙ kept))

  made_fewer : longest message ≤ length out → made.over ≡ false → steps_left recording made.player < steps_left recording p
  made_fewer room more =
      subst (λ (r : Outcome). steps_left recording r.player < steps_left recording p) (sym filled)
      (filled_fewer p recording rows message out room (sym (ap (λ (r : Outcome). r.over) filled) ∙ more))

pub returns-clause-len : goal.returns-clause-len
returns-clause-len c =
    let a = c.args in
    let f = c.fill in
    made_fits a.p a.self.now.0.now a.rows.now a.message.now a.out.now (outcome f.result f.new.rows f.new.message f.new.out) f.ensures
    f.auto.out

pub returns-clause-more : goal.returns-clause-more
unfolding longest
returns-clause-more c =
    let a = c.args in
    let f = c.fill in
    λ more. (
      tt,
      made_fewer a.p a.self.now.0.now a.rows.now a.message.now a.out.now (outcome f.result f.new.rows f.new.message f.new.out) f.ensures
          c.requires.1 more,
    )
