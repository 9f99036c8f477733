-- Each way out is a test of the pair.
use mathlib.Core.Path.{◌≡◌, sym, ap, ◌∙◌}
use Prim.Native.Nat.{◌≤◌}
use lib.ListN.{length}
use Rattle.std.specs.Prelude.{Some, Ok, Err}
use Rattle.std.proofs.lemmas.Result.{err_from_is_err_and}
use Rattle.code.specs.declared.settings.Settings.{Settings}
use Rattle.frames.specs.Fields.{settings_in}
use Rattle.aerials.specs.Pair.{pair_check}
use Rattle.pairplay.specs.Transcript.{shown_by}
use Rattle.pairs.proofs.Starts.{short, refused, plays}
use Rattle.pairs.proofs.start.started.Goals as goal

pub returns-then-shown-lt14 : goal.returns-then-shown-lt14
returns-then-shown-lt14 c = short c.args.first.now c.args.second.now c.requires.0 (rw (← c.requires.1) c.if-shown-lt14.true)

pub returns-in_err-pair_cause : goal.returns-in_err-pair_cause
returns-in_err-pair_cause c =
    let shown : c.settings_at-s.result ≡ settings_in (shown_by c.args.first.now c.args.second.now) =
    c.settings_at-s.ensures ∙ ap settings_in c.requires.1 in
    let long : 14 ≤ length (shown_by c.args.first.now c.args.second.now) = rw (← c.requires.1) c.if-shown-lt14.false in
    let p = err_from_is_err_and c.from_residual.result c.from_residual.ensures.1 in
    let cause : pair_check (settings_in (shown_by c.args.first.now c.args.second.now)) c.args.first.now c.args.second.now
    ≡ Err c.in_err-pair_cause.field-0.0 = rw (← shown) (sym c.pair_cause.ensures.cause ∙ c.in_err-pair_cause.was) in
    p.1 ∙ ap Err p.2 ∙ refused c.args.first.now c.args.second.now c.requires.0 long c.in_err-pair_cause.field-0.0 cause

pub returns : goal.returns
returns c =
    let shown : c.settings_at-s.result ≡ settings_in (shown_by c.args.first.now c.args.second.now) =
    c.settings_at-s.ensures ∙ ap settings_in c.requires.1 in
    let long : 14 ≤ length (shown_by c.args.first.now c.args.second.now) = rw (← c.requires.1) c.if-shown-lt14.false in
    let passed : pair_check (settings_in (shown_by c.args.first.now c.args.second.now)) c.args.first.now c.args.second.now ≡ Ok tt =
    rw (← shown) (sym c.pair_cause.ensures.cause ∙ c.in_ok-pair_cause.was) in
    rw shown (plays c.args.first.now c.args.second.now c.requires.0 long passed)
