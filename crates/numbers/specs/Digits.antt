-- A number in decimal, bytes in hex, and a text put over a line.
use Rattle.std.specs.Prelude.{◌≡◌, true, false, cond, List, [], ◌∷◌, ◌++◌, ℕ, zero, suc, ◌+◌, ◌/◌, ◌%◌, ltb, length, take, drop}

-- a digit below 16, in lower case
abbrev pub glyph : ℕ → ℕ
glyph d = cond (ltb d 10) (48 + d) (87 + d)

-- the decimal digits of a number that has at most one more than these
unfoldable pub decimal_up_to : ℕ → ℕ → List ℕ
decimal_up_to zero n = glyph (n % 10) ∷ []
decimal_up_to (suc more) n =
    elim (ltb n 10) [
      | true ↦ glyph n ∷ []
      | false ↦ decimal_up_to more (n / 10) ++ (glyph (n % 10) ∷ [])
    ]

-- a number in decimal: 32 bits have at most ten digits
unfoldable pub decimal : ℕ → List ℕ
decimal n = decimal_up_to 9 n

-- bytes in lower-case hex
abbrev pub hex : List ℕ → List ℕ
hex [] = []
hex (b ∷ bs) = glyph (b / 16) ∷ glyph (b % 16) ∷ hex bs

-- a text put over a line, from the place `start` on
unfoldable pub put : ℕ → List ℕ → List ℕ → List ℕ
put start text line = take start line ++ text ++ drop (start + length text) line

-- a line after a text was put over it from the place `start` on, and where the text ends
abbrev pub Puts : ℕ → List ℕ → List ℕ → ℕ → List ℕ → Type 0
Puts start text line end after = (end ≡ start + length text) × (after ≡ put start text line)
