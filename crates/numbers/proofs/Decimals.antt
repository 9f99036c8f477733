-- A number's decimal digits: those of its tenth, then the last one; at most ten.
use mathlib.Core.Path.{◌≡◌, refl, sym, ap, ◌∙◌}
use mathlib.Core.Bool.{Bool, true, false}
use mathlib.Core.List.{List, [], ◌∷◌, ◌++◌}
use Prim.Native.Nat.{ℕ, zero, suc, ◌^◌, ◌/◌, ◌%◌, ◌≤◌, ◌<◌}
use native.Mathlib.Nat.{mod-eq_of_lt, pow-suc, div-lt_iff_lt-mul}
use native.Mathlib.Omega.{arith}
use borrow.Author.Tests.{lt-ltb, le-ltb, ltb-true, ltb-false}
use lib.Dec.{ltb}
use lib.ListN.{length, length-append}
use Rattle.numbers.specs.Digits.{glyph, decimal_up_to, decimal}

-- the digits of a number, by whether it is below 10, where there is room for a second digit
abbrev digits : ℕ → ℕ → Bool → List ℕ
digits more n small =
    elim small as (λ _. List ℕ) [
      | true ↦ glyph n ∷ []
      | false ↦ decimal_up_to more (n / 10) ++ glyph (n % 10) ∷ []
    ]

-- a number below 10 is one digit
few : (more n : ℕ) → n < 10 → decimal_up_to (suc more) n ≡ glyph n ∷ []
unfolding decimal_up_to
few more n h = ap (digits more n) (lt-ltb n 10 h)

-- any other number is the digits of its tenth and the last one
many : (more n : ℕ) → 10 ≤ n → decimal_up_to (suc more) n ≡ decimal_up_to more (n / 10) ++ glyph (n % 10) ∷ []
unfolding decimal_up_to
many more n h = ap (digits more n) (le-ltb n 10 h)

-- room for one digit more changes nothing where the digits have room
roomier : (more n : ℕ) → n < 10 ^ suc more → decimal_up_to (suc more) n ≡ decimal_up_to more n
unfolding decimal_up_to
roomier zero n h = few zero n h ∙ ap (λ (d : ℕ). glyph d ∷ []) (sym (mod-eq_of_lt h))
roomier (suc more) n h = go (ltb n 10) refl (λ k. roomier more k)
  where
    go : (small : Bool) → ltb n 10 ≡ small
        → ((k : ℕ) → k < 10 ^ suc more → decimal_up_to (suc more) k ≡ decimal_up_to more k)
        → decimal_up_to (suc (suc more)) n ≡ decimal_up_to (suc more) n
    go true e tenth = few (suc more) n (ltb-true n 10 e) ∙ sym (few more n (ltb-true n 10 e))
    go false e tenth =
        let large : 10 ≤ n = ltb-false n 10 e in
        many (suc more) n large
        ∙ ap (λ (l : List ℕ). l ++ glyph (n % 10) ∷ [])
        (tenth (n / 10) ((div-lt_iff_lt-mul (omega arith)).1 (rw (pow-suc 10 (suc more)) at h)))
        ∙ sym (many more n large)

-- one digit more than the room, at most
room_length : (more n : ℕ) → length (decimal_up_to more n) ≤ suc more
unfolding decimal_up_to
room_length zero n = omega arith
room_length (suc more) n = go (ltb n 10) refl (room_length more (n / 10))
  where
    go : (small : Bool) → ltb n 10 ≡ small → length (decimal_up_to more (n / 10)) ≤ suc more
        → length (decimal_up_to (suc more) n) ≤ suc (suc more)
    go true e tenth = omega (arith, ap length (few more n (ltb-true n 10 e)))
    go false e tenth = omega (arith, simp length-append at (ap length (many more n (ltb-false n 10 e))))

-- at most ten digits
pub decimal_length : (n : ℕ) → length (decimal n) ≤ 10
unfolding decimal
decimal_length n = room_length 9 n

-- a number below 10 is one digit
pub one_digit : (n : ℕ) → n < 10 → decimal n ≡ glyph n ∷ []
unfolding decimal
one_digit n h = few 8 n h

-- any other number of 32 bits is the digits of its tenth and the last one
pub last_digit : (n : ℕ) → n < 2 ^ 32 → 10 ≤ n → decimal n ≡ decimal (n / 10) ++ glyph (n % 10) ∷ []
unfolding decimal
last_digit n fits h =
    many 8 n h ∙ ap (λ (l : List ℕ). l ++ glyph (n % 10) ∷ []) (sym (roomier 8 (n / 10) (omega arith)))
