-- Each step that is not the last leaves fewer slots to play, and the settings stay.
use Rattle.std.proofs.Common.{◌≡◌, false, ℕ, ◌+◌, ◌*◌, ◌≤◌, ◌<◌, List, length, sym, ap, ◌∙◌, subst, arith}
use Rattle.aerials.specs.Pair.{pair_cause}
use Rattle.progress.specs.declared.Player.{Player}
use Rattle.reporting.specs.Outcomes.{Outcome, outcome, printed_on}
use Rattle.pairplay.specs.Steps.{pair_step_of}
use Rattle.pairplay.proofs.Left.{pair_left, pair_fewer, pair_kept, pair_fits}
use Rattle.play.proofs.recorded.TwoRecorded.play_on.Goals as goal

module _ (p : Player) (first second rows message line : List ℕ)
    (made : Outcome) (stepped : made ≡ pair_step_of p first second rows message line) where
  made_fits : made.len ≤ 18 + 2 * length message
  unfolding pair_step_of printed_on
  made_fits = subst (λ (r : Outcome). r.len ≤ 18 + 2 * length message) (sym stepped) (pair_fits p first second rows message)

  made_kept : made.player.receiver.settings ≡ p.receiver.settings
  unfolding pair_step_of printed_on
  made_kept = ap (λ (r : Outcome). r.player.receiver.settings) stepped ∙ pair_kept p first second rows message

  made_fewer : pair_cause p.receiver.settings first second ≡ 0 → made.over ≡ false
      → pair_left first second made.player < pair_left first second p
  unfolding pair_step_of printed_on
  made_fewer accepted more =
      subst (λ (r : Outcome). pair_left first second r.player < pair_left first second p) (sym stepped)
      (pair_fewer p first second rows message accepted (sym (ap (λ (r : Outcome). r.over) stepped) ∙ more))

pub returns-clause-len : goal.returns-clause-len
returns-clause-len c =
    let a = c.args in
    let f = c.step in
    omega (
      arith,
      made_fits a.p a.self.now.0.now a.self.now.1.now a.rows.now a.message.now a.out.now
          (outcome f.result f.new.rows f.new.message f.new.line) f.ensures,
      c.requires.1,
    )

pub returns-clause-more : goal.returns-clause-more
returns-clause-more c =
    let a = c.args in
    let f = c.step in
    let made = outcome f.result f.new.rows f.new.message f.new.line in
    let kept = made_kept a.p a.self.now.0.now a.self.now.1.now a.rows.now a.message.now a.out.now made f.ensures in
    λ more. (
      rw kept c.requires.0,
      made_fewer a.p a.self.now.0.now a.self.now.1.now a.rows.now a.message.now a.out.now made f.ensures c.requires.0 more,
    )
