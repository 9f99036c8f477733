-- What the call comes to, by the tests before each way out of it.
use Rattle.std.specs.Prelude.{Ok, Err}
use mathlib.Core.Path.{◌≡◌, sym, ap, ◌∙◌}
use mathlib.Core.Bool.{false}
use mathlib.Core.List.{List}
use mathlib.Core.Logic.{◌≢◌}
use Prim.Native.Nat.{ℕ}
use lib.Dec.{T}
use lib.ListN.{length}
use borrow.Author.Tests.{eq-eqb, ne_eqb}
use Rattle.code.specs.declared.settings.Settings.{Settings}
use Rattle.code.specs.Settings.{accepted}
use Rattle.protocol.specs.declared.Cause.{Cause}
use Rattle.protocol.specs.declared.Cause.TheVariants.{BadSettings, BadLength}
use Rattle.protocol.specs.Answers.{Reply}
use Rattle.protocol.specs.Lengths.{message_len, receiver_len}
use Rattle.protocol.specs.Verdict.{verdict, buffer_of}
use Rattle.protocol.proofs.CauseTables.{fails}
use Rattle.decision.specs.Call.{Decision, decision_cause, decision_of}

-- a reply, and the message buffer with it
abbrev pub outcome : Reply → List ℕ → Decision
outcome r message = record { reply = r; message = message }

module _ (s : Settings) (rows : List ℕ) (due t : ℕ) (message : List ℕ) where
  -- a cause that is found is refused
  found : (c : Cause) → decision_cause s rows message ≡ Err c → outcome (Err c) message ≡ decision_of s rows due t message
  unfolding decision_of
  found c e = rw (e, decision_of)

  -- settings that are not accepted
  pub bad_settings : accepted s ≡ false → outcome (Err BadSettings) message ≡ decision_of s rows due t message
  unfolding decision_cause
  bad_settings e = found BadSettings (rw e)

  module _ (ok : T (accepted s)) where
    -- rows of a wrong length
    pub bad_rows : length rows ≢ receiver_len s → outcome (Err BadLength) message ≡ decision_of s rows due t message
    unfolding decision_cause
    bad_rows ne = found BadLength (rw (fails (accepted s) ok, ne_eqb (length rows) (receiver_len s) ne))

    module _ (full : length rows ≡ receiver_len s) where
      -- a message buffer of a wrong length
      pub bad_message : length message ≢ message_len s → outcome (Err BadLength) message ≡ decision_of s rows due t message
      unfolding decision_cause
      bad_message ne =
          found BadLength
          (rw (fails (accepted s) ok, eq-eqb (length rows) (receiver_len s) full, ne_eqb (length message) (message_len s) ne))

      module _ (fits : length message ≡ message_len s) where
        -- else no cause holds
        no_cause : decision_cause s rows message ≡ Ok tt
        unfolding decision_cause
        no_cause =
            rw (fails (accepted s) ok, eq-eqb (length rows) (receiver_len s) full, eq-eqb (length message) (message_len s) fits)

        -- and the verdict and its buffer are told
        pub taken : outcome (verdict s rows due t) (buffer_of s rows due t (verdict s rows due t)) ≡ decision_of s rows due t message
        unfolding decision_of
        taken = rw (no_cause, decision_of)

        -- so a call's reply is the verdict, and its buffer that of its reply
        pub told : (r : Reply) (after : List ℕ) → outcome r after ≡ decision_of s rows due t message
            → (r ≡ verdict s rows due t) × (after ≡ buffer_of s rows due t r)
        told r after e =
            let says : r ≡ verdict s rows due t = ap (λ (d : Decision). d.reply) (e ∙ sym taken) in
            (says, ap (λ (d : Decision). d.message) (e ∙ sym taken) ∙ ap (buffer_of s rows due t) (sym says))
