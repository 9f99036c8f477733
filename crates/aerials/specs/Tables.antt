-- A table of causes by the papers' numbers, read from the top.
use Rattle.std.specs.Prelude.{◌≡◌, Bool, true, false, List, [], ◌∷◌, ℕ, T}

-- a row: its condition, and the number of the cause
pub record Numbered : Type 0 where
  pub holds : Bool
  pub number : ℕ

abbrev pub numbered : Bool → ℕ → Numbered
numbered condition n = record { holds = condition; number = n }

-- the number of the first row that holds, 0 if none does
abbrev pub or_else : Bool → ℕ → ℕ → ℕ
or_else true n rest = n
or_else false n rest = rest

abbrev pub first_number : List Numbered → ℕ
first_number [] = 0
first_number (r ∷ rs) = or_else r.holds r.number (first_number rs)

-- n is the number of the first row that holds: its row does, and none above it
pub data FirstHolds (n : ℕ) : List Numbered → Type 0 where
  here : {r : Numbered} {rs : List Numbered} → T r.holds → r.number ≡ n → FirstHolds n (r ∷ rs)
  later : {r : Numbered} {rs : List Numbered} → (T r.holds → ⊥) → FirstHolds n rs → FirstHolds n (r ∷ rs)
