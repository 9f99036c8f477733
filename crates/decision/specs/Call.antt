-- The decision on one message as a function of everything that is lent, for any input at all.
use Rattle.std.specs.Prelude.{not, ◌&&◌, List, [], ◌∷◌, ℕ, eqb, length, Ok, Err}
use Rattle.code.specs.declared.settings.Settings.{Settings}
use Rattle.code.specs.Settings.{accepted}
use Rattle.protocol.specs.declared.Cause.TheVariants.{BadSettings, BadLength}
use Rattle.protocol.specs.Answers.{Answer, Reply}
use Rattle.protocol.specs.Lengths.{message_len, receiver_len}
use Rattle.protocol.specs.Verdict.{verdict, buffer_of}
use Rattle.protocol.specs.Causes.{Row, row, first_of}

-- a decision meets 1 and 2
abbrev pub decision_table : Settings → List ℕ → List ℕ → List Row
decision_table s rows message =
    row (not (accepted s)) BadSettings
    ∷ row (not (eqb (length rows) (receiver_len s) && eqb (length message) (message_len s))) BadLength
    ∷ []

unfoldable pub decision_cause : Settings → List ℕ → List ℕ → Answer
decision_cause s rows message = first_of (decision_table s rows message)

-- what a decision answers, and the message buffer after it
pub record Decision : Type 0 where
  pub reply : Reply
  pub message : List ℕ

-- the verdict on message t by the slots below due and its buffer, where no cause holds; else a refusal, which changes nothing
unfoldable pub decision_of : Settings → List ℕ → ℕ → ℕ → List ℕ → Decision
decision_of s rows due t message =
    elim (decision_cause s rows message) [
      | Ok tt ↦ record { reply = verdict s rows due t; message = buffer_of s rows due t (verdict s rows due t) }
      | Err c ↦ record { reply = Err c; message = message }
    ]
