-- What a loss report meets comes first, then whether the message is in reach.
use mathlib.Core.Path.{◌≡◌, sym, ap, ◌∙◌}
use mathlib.Core.Bool.{Bool}
use Prim.Native.Nat.{ℕ}
use lib.IntN.{ℤ}
use mir.Syntax.{w64}
use mir.Val.{SFits, to_z, of_z}
use mir.ValLaws.{to_z-of_z}
use Rattle.code.specs.declared.settings.Settings.{Settings}
use Rattle.protocol.specs.Causes.{out_of_reach}
use Rattle.protocol.proofs.QuestionMark.{refused_for}
use Rattle.causes.proofs.Parts.{refused_as_loss, refused_out_of_reach, look_up_clear}
use Rattle.causes.proofs.lookup.look_up_cause.Goals as goal

-- whether the message is in reach, as it was tested: its number is read back as it is
tested : (s : Settings) (due : ℕ) (number : ℤ) (far : Bool) → SFits w64 number → far ≡ out_of_reach s due (to_z w64 (of_z w64 number))
    → out_of_reach s due number ≡ far
tested s due number far fits is = ap (out_of_reach s due) (sym (to_z-of_z w64 number fits)) ∙ sym is

pub returns-in_err-loss_cause : goal.returns-in_err-loss_cause
returns-in_err-loss_cause c =
    let a = c.args in
    refused_for _ _ c.from_residual.ensures.1
    ∙ refused_as_loss a.x a.rows.now a.number a.message.now _ (sym c.loss_cause.ensures ∙ c.in_err-loss_cause.was)

pub returns-then-out_of_reach : goal.returns-then-out_of_reach
returns-then-out_of_reach c =
    refused_out_of_reach c.args.x c.args.rows.now c.args.number c.args.message.now (sym c.loss_cause.ensures ∙ c.in_ok-loss_cause.was)
    (tested _ _ _ _ c.ranges.number c.out_of_reach.ensures ∙ c.if-out_of_reach.true)

pub returns : goal.returns
returns c =
    look_up_clear c.args.x c.args.rows.now c.args.number c.args.message.now (sym c.loss_cause.ensures ∙ c.in_ok-loss_cause.was)
    (tested _ _ _ _ c.ranges.number c.out_of_reach.ensures ∙ c.if-out_of_reach.false)
