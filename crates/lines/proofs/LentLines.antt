-- What a writer leaves of a lent line, by whether there is room.
use mathlib.Core.Path.{◌≡◌, refl, sym, ap, ◌∙◌}
use mathlib.Core.Bool.{Bool, true, false}
use mathlib.Core.List.{List}
use native.Mathlib.Omega.{arith}
use Prim.Native.Nat.{ℕ, ◌≤◌, ◌<◌}
use lib.Dec.{ltb}
use lib.ListN.{length}
use borrow.Author.Tests.{lt-ltb, le-ltb, ltb-false}
use Rattle.protocol.specs.Answers.{Reply}
use Rattle.lines.specs.Text.{stop_text, line_of, written}
use Rattle.lines.specs.Lent.{longest, Line, line_on, stop_room, stop_text_on}
use Rattle.lines.proofs.TextLaws.{stop_length}

-- ---- the line of a report

module _ (about : ℕ) (reply : Reply) (message line : List ℕ) where
  -- without room it stays as it was
  pub line_stays : length line < longest message → record { line = line; len = 0 } ≡ line_on about reply message line
  unfolding line_on
  line_stays h = rw (lt-ltb (length line) (longest message) h, line_on)

  -- with room the text is written
  pub line_lent : longest message ≤ length line
      → record { line = written (line_of about reply message) line; len = length (line_of about reply message) }
      ≡ line_on about reply message line
  unfolding line_on
  line_lent h = rw (le-ltb (length line) (longest message) h, line_on)

  -- so these are the parts of what is given back
  pub line_parts : (now : List ℕ) (len : ℕ) → record { line = now; len = len } ≡ line_on about reply message line
      → longest message ≤ length line
      → (len ≡ length (line_of about reply message)) × (now ≡ written (line_of about reply message) line)
  line_parts now len e h =
      let lent = e ∙ sym (line_lent h) in
      (ap (λ (l : Line). l.len) lent, ap (λ (l : Line). l.line) lent)

-- ---- the line of a refusal

module _ (n : ℕ) (line : List ℕ) where
  -- without room it stays as it was
  pub stop_stays : length line < stop_room → record { line = line; len = 0 } ≡ stop_text_on n line
  unfolding stop_text_on
  stop_stays h = rw (lt-ltb (length line) stop_room h, stop_text_on)

  -- with room the text is written
  pub stop_lent : stop_room ≤ length line → record { line = written (stop_text n) line; len = length (stop_text n) } ≡ stop_text_on n line
  unfolding stop_text_on
  stop_lent h = rw (le-ltb (length line) stop_room h, stop_text_on)

  -- so these are the parts of what is given back
  pub stop_parts : (now : List ℕ) (len : ℕ) → record { line = now; len = len } ≡ stop_text_on n line → stop_room ≤ length line
      → (len ≡ length (stop_text n)) × (now ≡ written (stop_text n) line)
  stop_parts now len e h =
      let lent = e ∙ sym (stop_lent h) in
      (ap (λ (l : Line). l.len) lent, ap (λ (l : Line). l.line) lent)

  -- what is written fits
  pub stop_fits : (stop_text_on n line).len ≤ length line
  unfolding stop_text_on
  stop_fits = go (ltb (length line) stop_room) refl
    where
      go : (b : Bool) → ltb (length line) stop_room ≡ b → (stop_text_on n line).len ≤ length line
      go true is = rw (is, stop_text_on) (omega arith)
      go false is = rw (is, stop_text_on) (omega (arith, stop_length n, ltb-false (length line) stop_room is))
