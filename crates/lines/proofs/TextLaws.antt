-- Text written over the start of a line: one text after another, and the lengths.
use Rattle.std.specs.Prelude.{Ok, Err}
use mathlib.Core.Path.{◌≡◌, sym, ap, ap₂, ◌∙◌}
use mathlib.Core.List.{List, [], ◌∷◌, ◌++◌}
use Prim.Native.Nat.{ℕ, ◌+◌, ◌*◌, ◌≤◌, ◌<◌, zero-le}
use native.Mathlib.Nat.{zero-add}
use native.Mathlib.Omega.{arith}
use lib.ListN.{length, set, take, drop, length-append, length-drop}
use lib.Seq.{take-append_seam}
use Rattle.protocol.specs.Answers.{Reply}
use Rattle.protocol.specs.declared.Told.TheVariants.{NoneYet, Whole, Lost, Clash}
use Rattle.protocol.specs.Causes.{number_of}
use Rattle.numbers.specs.Digits.{put}
use Rattle.numbers.proofs.Decimals.{decimal_length}
use Rattle.numbers.proofs.HexDigits.{hex_length}
use Rattle.numbers.proofs.Putting.{put_more, put_one}
use Rattle.lines.specs.Text.{stop_text, line_of, written}
use Rattle.lines.specs.Lent.{stop_room}

-- a text written over a line leaves its length
pub written_length : (text line : List ℕ) → length text ≤ length line → length (written text line) ≡ length line
unfolding written
written_length text line h = simp (length-append, length-drop) (omega arith)

-- the text is the start of the line
pub written_text : (text line : List ℕ) → take (length text) (written text line) ≡ text
unfolding written
written_text text line = take-append_seam text (drop (length text) line)

-- it is put there
pub put_written : (text line : List ℕ) → put 0 text line ≡ written text line
unfolding put written
put_written text line = ap (λ (k : ℕ). text ++ drop k line) (zero-add (length text))

-- a text, and then another from its end, is both written
pub written_more : (text more line : List ℕ) → put (length text) more (written text line) ≡ written (text ++ more) line
written_more text more line =
    ap₂ (λ (k : ℕ) (l : List ℕ). put k more l) (sym (zero-add (length text))) (sym (put_written text line))
    ∙ put_more 0 text more line zero-le
    ∙ put_written (text ++ more) line

-- a text, and then a byte at its end
pub written_byte : (text line : List ℕ) (b : ℕ) → length text < length line
    → set (written text line) (length text) b ≡ written (text ++ b ∷ []) line
written_byte text line b h =
    put_one (length text) b (written text line) (omega (arith, written_length text line (omega arith)))
    ∙ written_more text (b ∷ []) line

-- a line of `stop` has room for any number in its 16 bytes
pub stop_length : (n : ℕ) → length (stop_text n) ≤ stop_room
unfolding stop_text
stop_length n = simp length-append (omega (arith, decimal_length n))

-- a line fits in 18 bytes and two for each byte of the message
pub line_fits : (about : ℕ) (r : Reply) (message : List ℕ) → length (line_of about r message) ≤ 18 + 2 * length message
unfolding line_of
line_fits about (Err c) message = omega (arith, stop_length (number_of c))
line_fits about (Ok NoneYet) message = omega arith
line_fits about (Ok Whole) message =
    simp length-append (omega (arith, decimal_length about, hex_length message))
line_fits about (Ok Lost) message = simp length-append (omega (arith, decimal_length about))
line_fits about (Ok Clash) message = simp length-append (omega (arith, decimal_length about))
