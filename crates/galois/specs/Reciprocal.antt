-- Document 02 §2: what a field answers for a reciprocal, and what dividing by that answer gives.
use Rattle.std.specs.Prelude.{◌≡◌, List, [], ◌∷◌, ℕ, ◌<◌, get_or, Option, None, Some}

-- none, or the element
pub data Reciprocal : Type 0 where
  none : Reciprocal
  element : ℕ → Reciprocal

-- the number and values of an answer: 0 and no value for none, 1 and its value for an element
abbrev pub numbered : Reciprocal → ℕ × List ℕ
numbered none = (0, [])
numbered (element x) = (1, x ∷ [])

-- what the code answers, of either field, whose elements have their numbers: none, or the number of the element
abbrev pub answered : {A : Type 0} → (A → ℕ) → Option A → Reciprocal
answered number None = none
answered number (Some x) = element (number x)

-- x divided by a number, by the field's product and the answer for the number's reciprocal: 0 on none
unfoldable pub divided_by : (ℕ → ℕ → ℕ) → ℕ → Reciprocal → ℕ
divided_by times x none = 0
divided_by times x (element r) = times x r

-- a table of a field's reciprocals: for each y from 1 on and below the bound, its entry y is the reciprocal of y
unfoldable pub Listed : ℕ → (ℕ → Reciprocal) → List ℕ → Type 0
Listed bound reciprocal t = (y : ℕ) → 0 < y → y < bound → reciprocal y ≡ element (get_or t y 0)
