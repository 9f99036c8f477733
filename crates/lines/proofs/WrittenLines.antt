-- What the writers leave on a line, step by step: one text after another, `stop` with its number, and the line of a message that is
-- whole.
use Rattle.std.specs.Prelude.{Ok}
use mathlib.Core.Path.{◌≡◌, refl, sym, ap, ap₂, ◌∙◌}
use mathlib.Core.List.{List, [], ◌∷◌, ◌++◌}
use Prim.Native.Nat.{ℕ, ◌+◌, ◌*◌, ◌≤◌}
use native.Mathlib.Omega.{arith}
use lib.ListN.{length, set, length-append}
use Rattle.protocol.specs.declared.Told.TheVariants.{Whole}
use Rattle.numbers.specs.Digits.{decimal, hex, put}
use Rattle.numbers.proofs.Decimals.{decimal_length}
use Rattle.numbers.proofs.HexDigits.{hex_length}
use Rattle.lines.specs.Text.{whole_word, stop_word, stop_text, line_of, written}
use Rattle.lines.specs.Lent.{stop_room}
use Rattle.lines.proofs.TextLaws.{written_byte, written_more, written_length}

-- a text, and then another from its end
module _ (text more line : List ℕ) (at : ℕ) (part whole : List ℕ) (is_at : at ≡ length text)
    (is-part : part ≡ written text line)
    (is_whole : whole ≡ put at more part) where
  -- the place past both
  pub joined_end : at + length more ≡ length (text ++ more)
  joined_end = simp length-append (omega arith)

  -- both are written
  pub joined : whole ≡ written (text ++ more) line
  joined =
      is_whole ∙ ap₂ (λ (k : ℕ) (l : List ℕ). put k more l) is_at is-part ∙ written_more text more line

  -- and the line's length is as it was
  pub joined_length : at + length more ≤ length line → length whole ≡ length line
  joined_length room = ap length joined ∙ written_length (text ++ more) line (omega (arith, joined_end))

-- `stop`, the number and the line's end
module _ (line : List ℕ) (room : stop_room ≤ length line) (n at : ℕ) (part whole : List ℕ)
    (is_at : at ≡ 5 + length (decimal n)) (is-part : part ≡ written stop_word line) (is_whole : whole ≡ put 5 (decimal n) part) where
  -- the number leaves the line's length
  pub number_length : length whole ≡ length line
  number_length = joined_length stop_word (decimal n) line 5 part whole refl is-part is_whole (omega (arith, decimal_length n))

  pub stop_written : (at + 1 ≡ length (stop_text n)) × (set whole at 10 ≡ written (stop_text n) line)
  unfolding stop_text
  stop_written =
      let text : List ℕ = stop_word ++ decimal n in
      let end : at ≡ length text = is_at ∙ joined_end stop_word (decimal n) line 5 part whole refl is-part is_whole in (
        omega (arith, length-append text (10 ∷ [])),
        ap₂ (λ (l : List ℕ) (k : ℕ). set l k 10) (joined stop_word (decimal n) line 5 part whole refl is-part is_whole) end
            ∙ written_byte text line 10 (omega (arith, decimal_length n)),
      )

-- a number and ` whole ` are at most 17 bytes
pub word_fits : (about : ℕ) → length (decimal about ++ whole_word) ≤ 17
word_fits about = simp length-append (omega (arith, decimal_length about))

-- the line of a message that is whole: its number and the word, its digits, and the line's end
module _ (about : ℕ) (message line : List ℕ) (room : 18 + 2 * length message ≤ length line) (at end : ℕ)
    (part whole : List ℕ) (is_at : at ≡ length (decimal about ++ whole_word)) (is-end : end ≡ at + length (hex message))
    (is-part : part ≡ written (decimal about ++ whole_word) line) (is_whole : whole ≡ put at (hex message) part) where
  -- the digits leave the line's length
  pub digits_length : length whole ≡ length line
  digits_length =
      joined_length (decimal about ++ whole_word) (hex message) line at part whole is_at is-part is_whole
      (omega (arith, word_fits about, hex_length message))

  -- the whole line is written
  pub whole_written : (end + 1 ≡ length (line_of about (Ok Whole) message))
      × (set whole end 10 ≡ written (line_of about (Ok Whole) message) line)
  unfolding line_of
  whole_written =
      let text : List ℕ = decimal about ++ whole_word ++ hex message in
      let size : end ≡ length text =
      is-end ∙ joined_end (decimal about ++ whole_word) (hex message) line at part whole is_at is-part is_whole in (
        ap (λ (k : ℕ). k + 1) size ∙ sym (length-append text (10 ∷ [])),
        ap₂ (λ (l : List ℕ) (k : ℕ). set l k 10)
            (joined (decimal about ++ whole_word) (hex message) line at part whole is_at is-part is_whole) size
            ∙ written_byte text line 10 (omega (arith, size, word_fits about, hex_length message)),
      )
