-- Texts put over a line: their length, one after another, and a byte at the end of one.
use mathlib.Core.Path.{◌≡◌, sym, ap, ap₂, ◌∙◌}
use mathlib.Core.List.{List, [], ◌∷◌, ◌++◌, append_assoc}
use Prim.Native.Nat.{ℕ, suc, ◌+◌, ◌≤◌, ◌<◌}
use native.Mathlib.Numerals.{add-one}
use native.Mathlib.Omega.{arith}
use lib.ListN.{length, set, take, drop, length-append, length-drop}
use lib.Seq.{length-take-le, take-append_seam, drop-append-add, drop-drop, set_split, append_snoc}
use Rattle.numbers.specs.Digits.{put}

-- a text put over a line leaves its length
pub put_length : (start : ℕ) (text line : List ℕ) → start + length text ≤ length line → length (put start text line) ≡ length line
unfolding put
put_length start text line fits = simp (length-append, length-drop) (omega (arith, length-take-le start line (omega arith)))

-- a text, and then another from its end, is both put
pub put_more : (start : ℕ) (text more line : List ℕ) → start ≤ length line
    → put (start + length text) more (put start text line) ≡ put start (text ++ more) line
unfolding put
put_more start text more line fits =
    let head : List ℕ = take start line ++ text in
    let rest : List ℕ = drop (start + length text) line in
    let size : start + length text ≡ length head =
    sym (length-append (take start line) text ∙ ap (λ (k : ℕ). k + length text) (length-take-le start line fits)) in
    let end : start + length text + length more ≡ start + length (text ++ more) = omega (arith, length-append text more) in
    ap (λ (k : ℕ). take k (head ++ rest) ++ more ++ drop (k + length more) (head ++ rest)) size
    ∙ ap₂ (λ (a b : List ℕ). a ++ more ++ b) (take-append_seam head rest)
    (drop-append-add head rest (length more) ∙ drop-drop (length more) (start + length text) line)
    ∙ ap₂ (λ (a : List ℕ) (k : ℕ). a ++ drop k line) (append_assoc (take start line) text more) end

-- one byte
pub put_one : (start b : ℕ) (line : List ℕ) → start < length line → set line start b ≡ put start (b ∷ []) line
unfolding put
put_one start b line h =
    set_split line start b h ∙ sym (append_snoc (take start line) b (drop (suc start) line))
    ∙ ap (λ (k : ℕ). take start line ++ b ∷ [] ++ drop k line) (sym (add-one start))

-- a text, and then a byte at its end
pub put_byte : (start : ℕ) (text line : List ℕ) (b : ℕ) → start + length text < length line
    → set (put start text line) (start + length text) b ≡ put start (text ++ b ∷ []) line
put_byte start text line b h =
    put_one (start + length text) b (put start text line) (omega (arith, put_length start text line (omega arith)))
    ∙ put_more start text (b ∷ []) line (omega arith)
