-- A table of causes by their numbers: none holds, or the first that does.
use mathlib.Core.Path.{◌≡◌, refl, sym}
use mathlib.Core.Bool.{Bool, true, false}
use mathlib.Core.Logic.{◌≢◌}
use mathlib.Core.List.{List, [], ◌∷◌}
use Prim.Native.Nat.{ℕ}
use lib.Dec.{T}
use Rattle.aerials.specs.Tables.{Numbered, or_else, first_number, FirstHolds}

-- nothing above and nothing below
pub clear : (b : Bool) (n rest : ℕ) → n ≢ 0 → or_else b n rest ≡ 0 → (b ≡ false) × (rest ≡ 0)
clear true n rest some e = absurd (some e)
clear false n rest some e = (refl, e)

-- the number is that of the first row that holds
pub first_holds : (rs : List Numbered) (n : ℕ) → n ≢ 0 → first_number rs ≡ n → FirstHolds n rs
first_holds [] n some e = absurd (some (sym e))
first_holds (r ∷ rs) n some e = go r.holds refl e (λ e'. first_holds rs n some e')
  where
    go : (b : Bool) → r.holds ≡ b → or_else b r.number (first_number rs) ≡ n → (first_number rs ≡ n → FirstHolds n rs)
        → FirstHolds n (r ∷ rs)
    go true is e' rest = FirstHolds.here {r = r} (rw is tt) e'
    go false is e' rest = FirstHolds.later {r = r} (rw is (λ t. t)) (rest e')

pub holds_first : (rs : List Numbered) (n : ℕ) → FirstHolds n rs → first_number rs ≡ n
holds_first [] n x' = elim x' [ ]
holds_first (r ∷ rs) n (FirstHolds.here t e) = go r.holds t
  where
    go : (b : Bool) → T b → or_else b r.number (first_number rs) ≡ n
    go true t' = e
    go false t' = absurd t'
holds_first (r ∷ rs) n (FirstHolds.later never rest) = go r.holds never (holds_first rs n rest)
  where
    go : (b : Bool) → (T b → ⊥) → first_number rs ≡ n → or_else b r.number (first_number rs) ≡ n
    go true never' e = absurd (never' tt)
    go false never' e = e
