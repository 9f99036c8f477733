-- Document 01, "Playing a recording": the lines, as bytes.
use Rattle.std.specs.Prelude.{◌≡◌, List, [], ◌∷◌, ◌++◌, ℕ, length, drop, Ok, Err}
use Rattle.protocol.specs.declared.Cause.{Cause}
use Rattle.protocol.specs.Answers.{Reply}
use Rattle.protocol.specs.declared.Told.TheVariants.{NoneYet, Whole, Lost, Clash}
use Rattle.protocol.specs.Causes.{number_of}
use Rattle.numbers.specs.Digits.{decimal, hex}

-- ` whole `, ` lost` and ` clash` with the line's end, and `stop `
abbrev pub whole_word : List ℕ
whole_word = 32 ∷ 119 ∷ 104 ∷ 111 ∷ 108 ∷ 101 ∷ 32 ∷ []

abbrev pub lost_word : List ℕ
lost_word = 32 ∷ 108 ∷ 111 ∷ 115 ∷ 116 ∷ 10 ∷ []

abbrev pub clash_word : List ℕ
clash_word = 32 ∷ 99 ∷ 108 ∷ 97 ∷ 115 ∷ 104 ∷ 10 ∷ []

abbrev pub stop_word : List ℕ
stop_word = 115 ∷ 116 ∷ 111 ∷ 112 ∷ 32 ∷ []

-- a line of `stop`, a space and the number
unfoldable pub stop_text : ℕ → List ℕ
stop_text n = stop_word ++ decimal n ++ 10 ∷ []

-- that of a cause
abbrev pub stop_line : Cause → List ℕ
stop_line c = stop_text (number_of c)

-- what a report prints of the message that it tells of: its number, a space, and the reply; after `whole` the message; `none yet` prints
-- no line
unfoldable pub line_of : ℕ → Reply → List ℕ → List ℕ
line_of about (Err c) message = stop_line c
line_of about (Ok NoneYet) message = []
line_of about (Ok Whole) message = decimal about ++ whole_word ++ hex message ++ 10 ∷ []
line_of about (Ok Lost) message = decimal about ++ lost_word
line_of about (Ok Clash) message = decimal about ++ clash_word

-- a text written over the start of a lent line
unfoldable pub written : List ℕ → List ℕ → List ℕ
written text line = text ++ drop (length text) line

-- a lent line after a text was written over its start, and where the text ends
abbrev pub Writes : List ℕ → List ℕ → ℕ → List ℕ → Type 0
Writes text line end after = (end ≡ length text) × (after ≡ written text line)
