-- What the writer of decimals leaves on a line: the digits before the last one, and then that.
use mathlib.Core.Path.{◌≡◌, sym, ap, ◌∙◌}
use mathlib.Core.List.{List, [], ◌∷◌, ◌++◌}
use Prim.Native.Nat.{ℕ, ◌+◌, ◌/◌, ◌%◌, ◌^◌, ◌≤◌, ◌<◌}
use native.Mathlib.Nat.{mod-eq_of_lt}
use native.Mathlib.Omega.{arith}
use lib.ListN.{length, set, length-append}
use Rattle.std.proofs.lemmas.Grind.{common_steps}
use Rattle.numbers.specs.Digits.{glyph, decimal, put}
use Rattle.numbers.proofs.Decimals.{one_digit, last_digit}
use Rattle.numbers.proofs.Putting.{put_length, put_byte}

-- a line on which the digits of n before the last one stand from `start` up to `end`
pub record Begun (n : ℕ) (line : List ℕ) (start end : ℕ) (part : List ℕ) : Type 0 where
  pub front : List ℕ
  pub digits : decimal n ≡ front ++ glyph (n % 10) ∷ []
  pub ends : end ≡ start + length front
  pub is_put : part ≡ put start front line

-- before the digit of a number below 10 there is none
pub none_before : (n : ℕ) (line : List ℕ) (start end : ℕ) (part : List ℕ) → n < 10 → start ≤ length line
    → end ≡ start → part ≡ line → Begun n line start end part
unfolding put
none_before n line start end part small within ends is-put = record {
  front = [];
  digits = one_digit n small ∙ ap (λ (d : ℕ). glyph d ∷ []) (sym (mod-eq_of_lt small));
  ends = omega arith;
  is_put = grind (arith, common_steps);
}

-- before the last digit of any other number stand those of its tenth
pub tenth_before : (n : ℕ) (line : List ℕ) (start end : ℕ) (part : List ℕ) → n < 2 ^ 32 → 10 ≤ n
    → end ≡ start + length (decimal (n / 10)) → part ≡ put start (decimal (n / 10)) line → Begun n line start end part
tenth_before n line start end part fits large ends is-put = record {
  front = decimal (n / 10);
  digits = last_digit n fits large;
  ends = ends;
  is_put = is-put;
}

module _ (n : ℕ) (line : List ℕ) (start end : ℕ) (part : List ℕ) (begun : Begun n line start end part) where
  -- the last digit's place is where the text ends but for one
  pub last_place : end + 1 ≡ start + length (decimal n)
  last_place = let b = begun in omega (arith, ap length b.digits ∙ length-append b.front (glyph (n % 10) ∷ []), b.ends)

  module _ (room : start + length (decimal n) ≤ length line) where
    -- the line has it
    pub last_within : end < length part
    last_within =
        let b = begun in
        omega (arith, last_place, b.ends, ap length b.is_put ∙ put_length start b.front line (omega (arith, last_place, b.ends)))

    -- and with the last digit there the number is put
    pub last_put : (b : ℕ) → b ≡ glyph (n % 10) → set part end b ≡ put start (decimal n) line
    last_put d is_digit =
        let b = begun in
        ap (λ (l : List ℕ). set l end d) b.is_put
        ∙ ap (λ (k : ℕ). set (put start b.front line) k d) b.ends
        ∙ ap (λ (x : ℕ). set (put start b.front line) (start + length b.front) x) is_digit
        ∙ put_byte start b.front line (glyph (n % 10)) (omega (arith, last_place, b.ends))
        ∙ ap (λ (text : List ℕ). put start text line) (sym b.digits)
