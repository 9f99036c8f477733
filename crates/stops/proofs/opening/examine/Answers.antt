-- Each way out is one case of the start.
use Rattle.std.specs.Prelude.{Some, Ok}
use mathlib.Core.Path.{◌≡◌, sym, ap, ◌∙◌, subst⁻¹}
use native.Mathlib.Omega.{arith}
use Prim.Native.Nat.{ℕ, ◌%◌}
use lib.Dec.{T}
use lib.ListN.{length}
use borrow.Author.Tests.{eqb-true, eqb-false}
use Rattle.code.specs.declared.settings.Settings.{Settings}
use Rattle.code.specs.Settings.{accepted}
use Rattle.protocol.specs.Lengths.{frame_len}
use Rattle.stops.proofs.StartLaws.{starts_empty, starts_short, starts_long, starts_refused, starts_part, starts_whole}
use Rattle.stops.proofs.opening.examine.Goals.{then-recording-lt14-via-then-recording-lt14}
use Rattle.stops.proofs.opening.examine.Goals.{then-recording-lt14-via-else-recording-lt14+then-recording-gt-LONGEST}
use Rattle.stops.proofs.opening.examine.Goals as goal

pub returns-then-is_empty : goal.returns-then-is_empty
returns-then-is_empty c =
    starts_empty c.args.recording.now (eqb-true (length c.args.recording.now) 0 (sym c.is_empty.ensures ∙ c.if-is_empty.true))

pub returns-then-recording-lt14 : goal.returns-then-recording-lt14
returns-then-recording-lt14 c =
    elim c.then-recording-lt14.branch [
      | then-recording-lt14-via-then-recording-lt14 w ↦
          starts_short c.args.recording.now (eqb-false (length c.args.recording.now) 0 (sym c.is_empty.ensures ∙ c.if-is_empty.false))
          w.if-recording-lt14.true
      | then-recording-lt14-via-else-recording-lt14+then-recording-gt-LONGEST w ↦
          starts_long c.args.recording.now (λ e. omega (arith, w.if-recording-lt14.false)) (omega (arith, w.if-recording-lt14.false))
          (omega (arith, w.if-recording-gt-LONGEST.true))
    ]

-- what the code read, by its definition
tested : (s t : Settings) (b e : _) → s ≡ t → b ≡ accepted s → b ≡ e → accepted t ≡ e
tested s t b e same is was = ap accepted (sym same) ∙ sym is ∙ was

pub returns-then-not-accepted : goal.returns-then-not-accepted
returns-then-not-accepted c =
    starts_refused c.args.recording.now (λ e. omega arith) (omega arith) (omega arith)
    (tested _ _ _ _ c.settings_at-s.ensures c.accepted.ensures c.if-not-accepted.true)

pub returns-then-recording-frame_len-ne0 : goal.returns-then-recording-frame_len-ne0
returns-then-recording-frame_len-ne0 c =
    let passed = subst⁻¹ T (tested _ _ _ _ c.settings_at-s.ensures c.accepted.ensures c.if-not-accepted.false) tt in
    let frame = c.frame_len.ensures ∙ ap frame_len c.settings_at-s.ensures in
    starts_part c.args.recording.now (λ e. omega arith) (omega arith) (omega arith) passed
    (λ e. c.if-recording-frame_len-ne0.true (ap (λ (m : ℕ). length c.args.recording.now % m) frame ∙ e))

pub returns : goal.returns
returns c =
    let passed = subst⁻¹ T (tested _ _ _ _ c.settings_at-s.ensures c.accepted.ensures c.if-not-accepted.false) tt in
    let frame = c.frame_len.ensures ∙ ap frame_len c.settings_at-s.ensures in
    ap (λ (s : Settings). Ok (Some s)) c.settings_at-s.ensures
    ∙ starts_whole c.args.recording.now (λ e. omega arith) (omega arith) (omega arith) passed
    (ap (λ (m : ℕ). length c.args.recording.now % m) (sym frame) ∙ c.if-recording-frame_len-ne0.false)

pub nonzero_rem-recording : goal.nonzero_rem-recording
unfolding frame_len
nonzero_rem-recording c =
    omega (arith, c.frame_len.ensures)
