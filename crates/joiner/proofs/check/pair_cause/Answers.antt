-- Each way out is a row of the table.
use mathlib.Core.Path.{◌≡◌, sym, ap, ◌∙◌}
use mathlib.Core.Bool.{Bool, true, false, ◌||◌}
use mathlib.Core.List.{List}
use Prim.Native.Nat.{ℕ}
use Rattle.std.specs.Prelude.{Ok, Err}
use Rattle.std.proofs.lemmas.Result.{err_from_is_err_and}
use Rattle.protocol.proofs.LookUps.{neither}
use Rattle.code.specs.declared.settings.Settings.{Settings}
use Rattle.code.specs.Settings.{accepted}
use Rattle.aerials.specs.declared.PairCause.{PairCause}
use Rattle.aerials.specs.declared.PairCause.TheVariants.{Unlike}
use Rattle.aerials.specs.Causes.{Check, check_number, refused_if}
use Rattle.aerials.specs.Sound.{Rising}
use Rattle.aerials.specs.Pair.{unfit, other_mark, other_settings, falling, unlike, pair_cause, pair_check}
use Rattle.aerials.proofs.CheckLaws.{check_numbered}
use Rattle.aerials.proofs.PairLaws.{rising}
use Rattle.joiner.specs.declared.walk.Faults.{Faults}
use Rattle.joiner.specs.Places.{frames_met}
use Rattle.joiner.proofs.Checking.{met, by_settings, by_lengths, by_frames, clear, by_overlap}
use Rattle.joiner.proofs.check.pair_cause.Goals as goal
use Rattle.joiner.proofs.check.pair_cause.Goals.{then-unfit-via-then-unfit, then-unfit-via-else-unfit+then-unfit-2}

numbered : (s : Settings) (x y : List ℕ) (r : Check) → r ≡ pair_check s x y → check_number r ≡ pair_cause s x y
numbered s x y r is = ap check_number is ∙ check_numbered s x y

either : (a b : Bool) → a ≡ true → a || b ≡ true
either a b e = rw e

or_other : (a b : Bool) → a ≡ false → b ≡ true → a || b ≡ true
or_other a b e f = rw (e, f)

both : (a b : Bool) → a ≡ false → b ≡ false → a || b ≡ false
both a b e f = rw (e, f)

-- Behind the tests of the settings and of the lengths: what the frames meet, which is r, and what follows where they meet nothing.
module _ (s : Settings) (x y : List ℕ) (took p q : Bool) (a b : Faults) (r : Check)
    (took_is : took ≡ accepted s) (p_is : p ≡ unfit s x) (q_is : q ≡ unfit s y)
    (takes : took ≡ true) (short : p ≡ false) (brief : q ≡ false)
    (r_is : r ≡ frames_met (a.mark || b.mark) (a.settings || b.settings) (a.falling || b.falling))
    (marks : a.mark ≡ other_mark s x) (marks-2 : b.mark ≡ other_mark s y)
    (sets : a.settings ≡ other_settings s x) (sets-2 : b.settings ≡ other_settings s y)
    (falls : a.falling ≡ falling s x) (falls-2 : b.falling ≡ falling s y) where
  settled : accepted s ≡ true
  settled = sym took_is ∙ takes

  fit : unfit s x || unfit s y ≡ false
  fit = both _ _ (sym p_is ∙ short) (sym q_is ∙ brief)

  found : r ≡ met s x y
  found = rw (← marks, ← marks-2, ← sets, ← sets-2, ← falls, ← falls-2) r_is

  stopped : (cause : PairCause) → r ≡ Err cause → Err cause ≡ pair_check s x y
  stopped cause e = by_frames s x y settled fit cause (sym found ∙ e)

  module _ (none : r ≡ Ok tt) where
    slots : (falling s x ≡ false) × (falling s y ≡ false)
    slots = neither (falling s x) (falling s y) (clear s x y settled fit (sym found ∙ none)).2

    one_rises : Rising s x
    one_rises = rising s x slots.0

    two_rises : Rising s y
    two_rises = rising s y slots.1

    compared : (differ e : Bool) → differ ≡ unlike s x y → differ ≡ e → refused_if e Unlike (Ok tt) ≡ pair_check s x y
    compared differ e seen is = by_overlap s x y settled fit (sym found ∙ none) e (sym seen ∙ is)

pub returns-then-not-accepted : goal.returns-then-not-accepted
returns-then-not-accepted c =
    let is = by_settings c.args.s c.args.first.now c.args.second.now (sym c.accepted.ensures ∙ c.if-not-accepted.true) in
    record { cause = is; number = numbered _ _ _ _ is }

pub returns-then-unfit : goal.returns-then-unfit
returns-then-unfit c =
    let s : Settings = c.args.s in
    let x : List ℕ = c.args.first.now in
    let y : List ℕ = c.args.second.now in
    let long : unfit s x || unfit s y ≡ true =
    elim c.then-unfit.branch [
      | then-unfit-via-then-unfit w ↦ either _ _ (sym c.unfit.ensures ∙ w.if-unfit.true)
      | then-unfit-via-else-unfit+then-unfit-2 w ↦
          or_other _ _ (sym c.unfit.ensures ∙ w.if-unfit.false) (sym w.unfit-else-unfit.ensures ∙ w.if-unfit-2.true)
    ] in
    let is = by_lengths s x y (sym c.accepted.ensures ∙ c.if-not-accepted.false) long in
    record { cause = is; number = numbered s x y _ is }

pub returns-in_err-frames_met : goal.returns-in_err-frames_met
returns-in_err-frames_met c =
    let a = c.walked.ensures in
    let b = c.walked-2.ensures in
    let p = err_from_is_err_and c.from_residual.result c.from_residual.ensures.1 in
    let is = p.1 ∙ ap Err p.2 ∙ stopped _ _ _ _ _ _ _ _ _ c.accepted.ensures c.unfit.ensures c.unfit-else-unfit.ensures
    c.if-not-accepted.false c.if-unfit.false c.if-unfit-2.false c.frames_met.ensures a.mark b.mark a.settings b.settings
    a.falling b.falling _ c.in_err-frames_met.was in
    record { cause = is; number = numbered _ _ _ _ is }

pub new-requires : goal.new-requires
new-requires c =
    let a = c.walked.ensures in
    let b = c.walked-2.ensures in
    one_rises _ _ _ _ _ _ _ _ _ c.accepted.ensures c.unfit.ensures c.unfit-else-unfit.ensures
    c.if-not-accepted.false c.if-unfit.false c.if-unfit-2.false c.frames_met.ensures a.mark b.mark a.settings b.settings
    a.falling b.falling c.in_ok-frames_met.was

pub new-requires-2 : goal.new-requires-2
new-requires-2 c =
    let a = c.walked.ensures in
    let b = c.walked-2.ensures in
    two_rises _ _ _ _ _ _ _ _ _ c.accepted.ensures c.unfit.ensures c.unfit-else-unfit.ensures
    c.if-not-accepted.false c.if-unfit.false c.if-unfit-2.false c.frames_met.ensures a.mark b.mark a.settings b.settings
    a.falling b.falling c.in_ok-frames_met.was

pub returns-then-unlike : goal.returns-then-unlike
returns-then-unlike c =
    let a = c.walked.ensures in
    let b = c.walked-2.ensures in
    let is = compared _ _ _ _ _ _ _ _ _ c.accepted.ensures c.unfit.ensures c.unfit-else-unfit.ensures
    c.if-not-accepted.false c.if-unfit.false c.if-unfit-2.false c.frames_met.ensures a.mark b.mark a.settings b.settings
    a.falling b.falling c.in_ok-frames_met.was
    _ true (rw (c.new.ensures.settings, c.new.ensures.bytes, c.new-2.ensures.bytes) at c.unlike.ensures) c.if-unlike.true in
    record { cause = is; number = numbered _ _ _ _ is }

pub returns : goal.returns
returns c =
    let a = c.walked.ensures in
    let b = c.walked-2.ensures in
    let is = compared _ _ _ _ _ _ _ _ _ c.accepted.ensures c.unfit.ensures c.unfit-else-unfit.ensures
    c.if-not-accepted.false c.if-unfit.false c.if-unfit-2.false c.frames_met.ensures a.mark b.mark a.settings b.settings
    a.falling b.falling c.in_ok-frames_met.was
    _ false (rw (c.new.ensures.settings, c.new.ensures.bytes, c.new-2.ensures.bytes) at c.unlike.ensures) c.if-unlike.false in
    record { cause = is; number = numbered _ _ _ _ is }
