-- What is handed out when a recording is played by its start and its fillings, one after another, to the last.
use Rattle.std.specs.Prelude.{◌≡◌, true, false, List, [], ◌++◌, ℕ, suc, ◌≤◌, length, take, Some, None, Ok, Err}
use Rattle.code.specs.declared.settings.Settings.{Settings}
use Rattle.protocol.specs.declared.Cause.{Cause}
use Rattle.protocol.specs.Lengths.{message_len, receiver_len}
use Rattle.lines.specs.Text.{stop_line}
use Rattle.lines.specs.Lent.{longest}
use Rattle.stops.specs.Stops.{start_of}
use Rattle.progress.specs.declared.Player.{Player}
use Rattle.steps.specs.Steps.{Begun, begin_of}
use Rattle.reporting.specs.Outcomes.{Outcome}
use Rattle.player.specs.Transcript.{transcript}
use Rattle.player.specs.Filling.{filled_of}

-- what a filling hands out: the first bytes of its buffer
abbrev pub handed_out : Outcome → List ℕ
handed_out o = take o.len o.out

-- the fillings from filling i on end, and this is what they hand out; each is lent a buffer of its own, of any bytes
pub data Fillings (recording : List ℕ) (buffer : ℕ → List ℕ) : ℕ → Player → List ℕ → List ℕ → List ℕ → Type 0 where
  last : (i : ℕ) (p : Player) (rows message : List ℕ) (o : Outcome)
      → filled_of p recording rows message (buffer i) ≡ o → o.over ≡ true
      → Fillings recording buffer i p rows message (handed_out o)
  next : (i : ℕ) (p : Player) (rows message rest : List ℕ) (o : Outcome)
      → filled_of p recording rows message (buffer i) ≡ o → o.over ≡ false
      → Fillings recording buffer (suc i) o.player o.rows o.message rest
      → Fillings recording buffer i p rows message (handed_out o ++ rest)

-- what a recording prints from its start on, with these rows, this message buffer and these buffers lent
pub data Printed (recording rows message : List ℕ) (buffer : ℕ → List ℕ) : List ℕ → Type 0 where
  nothing : start_of recording ≡ Ok None → Printed recording rows message buffer []
  refused : (c : Cause) → start_of recording ≡ Err c → Printed recording rows message buffer (stop_line c)
  played : (s : Settings) (b : Begun) (text : List ℕ) → start_of recording ≡ Ok (Some s) → begin_of s rows message ≡ b
      → Fillings recording buffer 0 b.player b.rows b.message text
      → Printed recording rows message buffer text

-- the rows and the message buffer have the lengths that the recording's settings ask, and each buffer has room for the longest line
unfoldable pub Fitting : List ℕ → List ℕ → List ℕ → (ℕ → List ℕ) → Type 0
Fitting recording rows message buffer =
    (s : Settings) → start_of recording ≡ Ok (Some s)
    → (length rows ≡ receiver_len s) × (length message ≡ message_len s) × ((i : ℕ) → longest message ≤ length (buffer i))

-- every recording: what its fillings hand out, one after another, is its transcript, and they end
unfoldable pub Playing : Type 0
Playing =
    (recording rows message : List ℕ) (buffer : ℕ → List ℕ) → Fitting recording rows message buffer
    → Printed recording rows message buffer (transcript recording)
