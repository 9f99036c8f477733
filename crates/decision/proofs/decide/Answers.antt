-- Each way out is one case of the decision.
use mathlib.Core.Path.{◌≡◌, sym, ap, ◌∙◌, subst⁻¹}
use mathlib.Core.Bool.{Bool, true}
use mathlib.Core.List.{List}
use native.Mathlib.Omega.{arith}
use Prim.Native.Nat.{ℕ}
use lib.Dec.{T}
use lib.ListN.{length}
use Rattle.code.specs.declared.settings.Settings.{Settings}
use Rattle.code.specs.Settings.{accepted}
use Rattle.protocol.specs.Answers.{Reply}
use Rattle.protocol.specs.Lengths.{message_len, receiver_len}
use Rattle.protocol.specs.Verdict.{verdict, buffer_of}
use Rattle.decision.specs.Call.{decision_of}
use Rattle.decision.proofs.CallOutcomes.{outcome, bad_settings, bad_rows, bad_message, taken}
use Rattle.decision.proofs.decide.Goals as goal
use Rattle.decision.proofs.decide.Goals.{then-rows-receiver_len-via-then-rows-receiver_len}
use Rattle.decision.proofs.decide.Goals.{then-rows-receiver_len-via-else-rows-receiver_len+then-message-message_len}

-- settings that are found accepted are so
passed : (s : Settings) (test : Bool) → test ≡ accepted s → test ≡ true → T (accepted s)
passed s test is e = subst⁻¹ T (sym is ∙ e) tt

-- where nothing is refused, the verdict is the reply, and the buffer is that of the reply
tells : (s : Settings) (rows : List ℕ) (due t : ℕ) (message : List ℕ) → T (accepted s) → length rows ≡ receiver_len s
    → length message ≡ message_len s → (r : Reply) (after : List ℕ) → r ≡ verdict s rows due t → after ≡ buffer_of s rows due t r
    → outcome r after ≡ decision_of s rows due t message
tells s rows due t message ok full fits r after says holds =
    ap (outcome r) holds ∙ ap (λ (q : Reply). outcome q (buffer_of s rows due t q)) says ∙ taken s rows due t message ok full fits

pub returns-then-not-accepted : goal.returns-then-not-accepted
returns-then-not-accepted c =
    bad_settings c.args.s c.args.rows.now c.args.due c.args.t c.args.message.now (sym c.accepted.ensures ∙ c.if-not-accepted.true)

pub returns-then-rows-receiver_len : goal.returns-then-rows-receiver_len
returns-then-rows-receiver_len c =
    let ok = passed c.args.s _ c.accepted.ensures c.if-not-accepted.false in
    elim c.then-rows-receiver_len.branch [
      | then-rows-receiver_len-via-then-rows-receiver_len w ↦
          bad_rows c.args.s c.args.rows.now c.args.due c.args.t c.args.message.now ok
          (λ same. w.if-rows-receiver_len.true (same ∙ sym c.receiver_len.ensures))
      | then-rows-receiver_len-via-else-rows-receiver_len+then-message-message_len w ↦
          bad_message c.args.s c.args.rows.now c.args.due c.args.t c.args.message.now ok
          (w.if-rows-receiver_len.false ∙ c.receiver_len.ensures)
          (λ same. w.if-message-message_len.true (same ∙ sym w.message_len.ensures))
    ]

pub decided-requires : goal.decided-requires
decided-requires c =
    let ok = passed c.args.s _ c.accepted.ensures c.if-not-accepted.false in
    let full = c.if-rows-receiver_len.false ∙ c.receiver_len.ensures in (
      record { settings = ok; rows_exact = full; slot_fits = omega arith },
      omega arith,
      c.if-message-message_len.false ∙ c.message_len.ensures,
    )

pub returns : goal.returns
returns c =
    tells c.args.s c.args.rows.now c.args.due c.args.t c.args.message.now (passed c.args.s _ c.accepted.ensures c.if-not-accepted.false)
    (c.if-rows-receiver_len.false ∙ c.receiver_len.ensures) (c.if-message-message_len.false ∙ c.message_len.ensures) _ _
    c.decided.ensures.said c.decided.ensures.message
