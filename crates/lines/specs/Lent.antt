-- A line written over the start of a lent one, where there is room: else nothing changes.
use Rattle.std.specs.Prelude.{true, false, List, ℕ, ◌+◌, ◌*◌, ltb, length}
use Rattle.protocol.specs.declared.Cause.{Cause}
use Rattle.protocol.specs.Answers.{Reply}
use Rattle.protocol.specs.Causes.{number_of}
use Rattle.lines.specs.Text.{stop_text, line_of, written}

-- what the longest line takes: ten digits, ` whole `, the message in hex, and the line's end
unfoldable pub longest : List ℕ → ℕ
longest message = 18 + 2 * length message

-- a lent line after a writer, and how much of it the writer wrote
pub record Line : Type 0 where
  pub line : List ℕ
  pub len : ℕ

-- the line of a report, over the start of a lent line; without room for the longest nothing changes
unfoldable pub line_on : ℕ → Reply → List ℕ → List ℕ → Line
line_on about reply message line =
    elim (ltb (length line) (longest message)) [
      | true ↦ record { line = line; len = 0 }
      | false ↦ record { line = written (line_of about reply message) line; len = length (line_of about reply message) }
    ]

-- what the line of a refusal may take: `stop `, ten digits, and the line's end
abbrev pub stop_room : ℕ
stop_room = 16

-- the line of a refusal by its number, over the start of a lent line; without room for any number's nothing changes
unfoldable pub stop_text_on : ℕ → List ℕ → Line
stop_text_on n line =
    elim (ltb (length line) stop_room) [
      | true ↦ record { line = line; len = 0 }
      | false ↦ record { line = written (stop_text n) line; len = length (stop_text n) }
    ]

-- that of a cause
abbrev pub stop_on : Cause → List ℕ → Line
stop_on c = stop_text_on (number_of c)
