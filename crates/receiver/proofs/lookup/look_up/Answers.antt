-- A cause that is found refuses the look-up, and else the decision by the slots below the slot due is the reply.
use Rattle.std.specs.Prelude.{Ok, Err}
use mathlib.Core.Path.{◌≡◌, sym, ap, ◌∙◌, subst⁻¹}
use mathlib.Core.List.{List}
use native.Mathlib.Omega.{arith}
use Prim.Native.Nat.{ℕ}
use lib.IntN.{ℤ, pos, nat_abs}
use lib.Signed.{non_neg}
use lib.Dec.{T}
use mir.Syntax.{w32, w64}
use mir.Val.{Fits, SFits, to_z, of_z}
use mir.ValLaws.{to_z-of_z}
use Rattle.protocol.specs.declared.Receiver.{Receiver}
use Rattle.protocol.specs.declared.Cause.{Cause}
use Rattle.protocol.specs.Answers.{Answer, Reply}
use Rattle.protocol.specs.Lengths.{last_slot}
use Rattle.protocol.specs.Causes.{look_up_cause}
use Rattle.protocol.specs.Verdict.{verdict, buffer_of}
use Rattle.protocol.specs.Calls.{Looked, tell_of, look_up_of}
use Rattle.protocol.specs.Meaning.{InReach}
use Rattle.protocol.proofs.LookUps.{look_up_open, look_up_stays, look_up_told}
use Rattle.protocol.proofs.QuestionMark.{refused_for}
use Rattle.protocol.proofs.ReportCauses.{LossOpen}
use Rattle.decision.specs.Call.{decision_of}
use Rattle.decision.proofs.CallOutcomes.{outcome, told}
use Rattle.receiver.proofs.lookup.look_up.Goals as goal

-- what a look-up hands back, by its reply and its message
abbrev looked : Reply → List ℕ → Looked
looked r message = record { reply = r; message = message }

module _ (x : Receiver) (rows : List ℕ) (number : ℤ) (message : List ℕ) (fits : SFits w64 number) (found : Answer)
    (is : found ≡ look_up_cause x rows (to_z w64 (of_z w64 number)) message) where
  cause : look_up_cause x rows number message ≡ found
  cause = ap (λ (z : ℤ). look_up_cause x rows z message) (sym (to_z-of_z w64 number fits)) ∙ sym is

  stays : (c : Cause) → found ≡ Err c → looked (Err c) message ≡ look_up_of x rows number message
  stays c e = sym (look_up_stays x rows number message c (cause ∙ e))

  -- where no cause was found, the message is in reach
  module _ (none : found ≡ Ok tt) where
    clear : LossOpen x rows message
    clear = (look_up_open x rows number message (cause ∙ none)).0

    reach : (t : ℕ) × InReach x.settings x.due number t
    reach = let (free, t, within) = look_up_open x rows number message (cause ∙ none) in (t, within)

    read : to_z w64 (of_z w64 number) ≡ pos reach.0
    read = to_z-of_z w64 number fits ∙ reach.1.0

    -- so its number is one of 32 bits
    short : T (non_neg (to_z w64 (of_z w64 number))) × Fits w32 (nat_abs (to_z w64 (of_z w64 number)))
    unfolding last_slot
    short =
        let early = clear.in_time_lem in
        let below = reach.1.1 in
        subst⁻¹ (λ (z : ℤ). T (non_neg z) × Fits w32 (nat_abs z)) read (tt, record { fits = omega arith })

    -- and the decision on it is told
    tells : (r : Reply) (after : List ℕ)
        → outcome r after ≡ decision_of x.settings rows x.due (nat_abs (to_z w64 (of_z w64 number))) message
        → looked r after ≡ look_up_of x rows number message
    unfolding tell_of
    tells r after decided =
        let says = told x.settings rows x.due _ message clear.settings clear.rows_exact clear.message_exact r after decided in
        ap (looked r) (says.1 ∙ ap (λ (z : ℤ). buffer_of x.settings rows x.due (nat_abs z) r) read)
        ∙ ap (λ (q : Reply). looked q (buffer_of x.settings rows x.due reach.0 q))
        (says.0 ∙ ap (λ (z : ℤ). verdict x.settings rows x.due (nat_abs z)) read)
        ∙ sym (look_up_told x rows number message reach.0 reach.1.0 (cause ∙ none))

pub returns-in_err-look_up_cause : goal.returns-in_err-look_up_cause
returns-in_err-look_up_cause c =
    ap (λ (r : Reply). looked r c.args.message.now) (refused_for _ _ c.from_residual.ensures.1)
    ∙ stays c.args.x c.args.rows.now c.args.number c.args.message.now c.ranges.number _ c.look_up_cause.ensures _
    c.in_err-look_up_cause.was

pub returns : goal.returns
returns c =
    tells c.args.x c.args.rows.now c.args.number c.args.message.now c.ranges.number _ c.look_up_cause.ensures c.in_ok-look_up_cause.was
    _ _ c.decide.ensures

pub overflow_cast-number : goal.overflow_cast-number
overflow_cast-number c =
    short c.args.x c.args.rows.now c.args.number c.args.message.now c.ranges.number _ c.look_up_cause.ensures c.in_ok-look_up_cause.was
