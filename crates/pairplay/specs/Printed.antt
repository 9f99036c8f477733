-- What is handed out when a pair is played by its start and its steps, one after another, to the last.
use Rattle.std.specs.Prelude.{◌≡◌, true, false, List, [], ◌++◌, ℕ, suc, length, Some, None, Ok, Err}
use Rattle.code.specs.declared.settings.Settings.{Settings}
use Rattle.protocol.specs.Lengths.{message_len, receiver_len}
use Rattle.lines.specs.Text.{stop_text}
use Rattle.aerials.specs.declared.PairCause.{PairCause}
use Rattle.aerials.specs.Causes.{pair_number}
use Rattle.progress.specs.declared.Player.{Player}
use Rattle.reporting.specs.Outcomes.{Outcome}
use Rattle.steps.specs.Steps.{Begun, begin_of}
use Rattle.player.specs.Printed.{handed_out}
use Rattle.pairplay.specs.Transcript.{pair_transcript}
use Rattle.pairplay.specs.Steps.{pair_start, pair_step_of}

-- the steps from step i on end, and this is what they hand out; each is lent a line of its own, of any bytes
pub data PairSteps (first second : List ℕ) (line : ℕ → List ℕ) : ℕ → Player → List ℕ → List ℕ → List ℕ → Type 0 where
  last : (i : ℕ) (p : Player) (rows message : List ℕ) (o : Outcome)
      → pair_step_of p first second rows message (line i) ≡ o → o.over ≡ true
      → PairSteps first second line i p rows message (handed_out o)
  next : (i : ℕ) (p : Player) (rows message rest : List ℕ) (o : Outcome)
      → pair_step_of p first second rows message (line i) ≡ o → o.over ≡ false
      → PairSteps first second line (suc i) o.player o.rows o.message rest
      → PairSteps first second line i p rows message (handed_out o ++ rest)

-- what a pair prints from its start on, with these rows, this message buffer and these lines lent
pub data PairPrinted (first second rows message : List ℕ) (line : ℕ → List ℕ) : List ℕ → Type 0 where
  nothing : pair_start first second ≡ Ok None → PairPrinted first second rows message line []
  refused : (c : PairCause) → pair_start first second ≡ Err c → PairPrinted first second rows message line (stop_text (pair_number c))
  played : (s : Settings) (b : Begun) (text : List ℕ) → pair_start first second ≡ Ok (Some s) → begin_of s rows message ≡ b
      → PairSteps first second line 0 b.player b.rows b.message text
      → PairPrinted first second rows message line text

-- the rows and the message buffer have the lengths that the pair's settings ask
unfoldable pub PairFitting : List ℕ → List ℕ → List ℕ → List ℕ → Type 0
PairFitting first second rows message =
    (s : Settings) → pair_start first second ≡ Ok (Some s) → (length rows ≡ receiver_len s) × (length message ≡ message_len s)

-- every pair: what its steps hand out, one after another, is its transcript, and they end
unfoldable pub PlayingPair : Type 0
PlayingPair =
    (first second rows message : List ℕ) (line : ℕ → List ℕ) → PairFitting first second rows message
    → PairPrinted first second rows message line (pair_transcript first second)
