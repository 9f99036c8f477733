-- The number of the check's answer, with the settings as the caller lends them.
use mathlib.Core.Path.{sym, ◌∙◌, ap}
use Rattle.code.specs.declared.settings.Settings.{Settings}
use Rattle.aerials.specs.Causes.{check_number}
use Rattle.aerials.specs.Pair.{pair_cause}
use Rattle.library.specs.Calls.{settings_of, pair_bytes}
use Rattle.tob.proofs.pairs.tob_pair_cause.Goals as goal

pub returns-in-Ok : goal.returns-in-Ok
unfolding pair_bytes settings_of
returns-in-Ok c =
    sym (ap check_number c.in-Ok.is) ∙ c.pair_cause.ensures.number
    ∙ ap (λ (s : Settings). pair_cause s c.args.first.now c.args.second.now) c.settings_at.ensures

pub returns-in-Err : goal.returns-in-Err
unfolding pair_bytes settings_of
returns-in-Err c =
    c.from.ensures ∙ sym (ap check_number c.in-Err.is) ∙ c.pair_cause.ensures.number
    ∙ ap (λ (s : Settings). pair_cause s c.args.first.now c.args.second.now) c.settings_at.ensures
