-- The hex digits of bytes, by their places.
use mathlib.Core.Path.{◌≡◌, refl, sym, ap, ap₂, ◌∙◌}
use mathlib.Core.List.{List, [], ◌∷◌}
use Prim.Native.Nat.{ℕ, zero, suc, ◌+◌, ◌*◌, ◌/◌, ◌%◌, ◌≤◌, ◌<◌}
use native.Mathlib.Nat.{not-suc-le-zero, le_of_suc-le-suc}
use native.Mathlib.Omega.{arith}
use lib.ListN.{length, get_or, set}
use lib.Seq.{paste, paste-suc}
use Rattle.numbers.specs.Digits.{glyph, hex}

-- two digits a byte
pub hex_length : (bytes : List ℕ) → length (hex bytes) ≡ 2 * length bytes
hex_length [] = refl
hex_length (b ∷ bs) = let rest = hex_length bs in omega arith

-- the first digit of a byte
pub high_digit : (bytes : List ℕ) (i : ℕ) → i < length bytes → get_or (hex bytes) (2 * i) 0 ≡ glyph (get_or bytes i 0 / 16)
high_digit [] i h = absurd (not-suc-le-zero h)
high_digit (b ∷ bs) zero h = refl
high_digit (b ∷ bs) (suc i) h =
    let twice : 2 * suc i ≡ suc (suc (2 * i)) = omega arith in
    ap (λ (k : ℕ). get_or (hex (b ∷ bs)) k 0) twice ∙ high_digit bs i (le_of_suc-le-suc h)

-- the second digit of a byte
pub low_digit : (bytes : List ℕ) (i : ℕ) → i < length bytes
    → get_or (hex bytes) (suc (2 * i)) 0 ≡ glyph (get_or bytes i 0 % 16)
low_digit [] i h = absurd (not-suc-le-zero h)
low_digit (b ∷ bs) zero h = refl
low_digit (b ∷ bs) (suc i) h =
    let twice : 2 * suc i ≡ suc (suc (2 * i)) = omega arith in
    ap (λ (k : ℕ). get_or (hex (b ∷ bs)) (suc k) 0) twice ∙ low_digit bs i (le_of_suc-le-suc h)

-- the two digits of one byte more
pub byte_pasted : (bytes line : List ℕ) (start i high low : ℕ) → i < length bytes → start + 2 * length bytes ≤ length line
    → high ≡ glyph (get_or bytes i 0 / 16) → low ≡ glyph (get_or bytes i 0 % 16)
    → set (set (paste line start (hex bytes) (2 * i)) (start + 2 * i) high) (start + 2 * i + 1) low
    ≡ paste line start (hex bytes) (2 * (i + 1))
byte_pasted bytes line start i high low h room is-high is-low =
    let size : length (hex bytes) ≡ 2 * length bytes = hex_length bytes in
    let j : ℕ = 2 * i in
    let next : start + j + 1 ≡ start + suc j = omega arith in
    let two : suc (suc j) ≡ 2 * (i + 1) = omega arith in
    ap₂ (λ (x y : ℕ). set (set (paste line start (hex bytes) j) (start + j) x) (start + j + 1) y)
    (is-high ∙ sym (high_digit bytes i h)) (is-low ∙ sym (low_digit bytes i h))
    ∙ ap (λ (l : List ℕ). set l (start + j + 1) (get_or (hex bytes) (suc j) 0))
    (paste-suc line start (hex bytes) j 0 (omega arith) (omega arith))
    ∙ ap (λ (k : ℕ). set (paste line start (hex bytes) (suc j)) k (get_or (hex bytes) (suc j) 0)) next
    ∙ paste-suc line start (hex bytes) (suc j) 0 (omega arith) (omega arith)
    ∙ ap (λ (k : ℕ). paste line start (hex bytes) k) two
