-- Document 01, "The matrix": words, and the word of a choice of the first k symbols.
use Rattle.std.specs.Prelude.{true, false, cond, List, [], ◌∷◌, ◌++◌, ℕ, zero, suc, ◌<◌, eqb, get_or}
use Rattle.galois.specs.Byte.{◌⊕◌, ◌⊗◌}
use Rattle.galois.specs.Sum.{sum}
use Rattle.code.specs.declared.settings.Settings.{Settings}
use Rattle.code.specs.Settings.{accepted, k_of}
use Rattle.code.specs.Matrix.{entry}
use Rattle.galois.specs.Table.{table}

-- multipliers of G's rows that are bytes: those of a word
abbrev pub OfWord : (ℕ → ℕ) → Type 0
OfWord u = (r : ℕ) → u r < 256

-- the word of the multipliers u, a sum of byte multiples of G's rows, at position p
unfoldable pub word_at : Settings → (ℕ → ℕ) → ℕ → ℕ
word_at s u p = sum (k_of s) (λ r. u r ⊗ entry s r p)

-- the first m multipliers of the word that begins with the symbols x, by forward substitution
unfoldable pub multipliers : Settings → (ℕ → ℕ) → ℕ → List ℕ
multipliers s x zero = []
multipliers s x (suc m) =
    let u : List ℕ = multipliers s x m in
    u ++ ((x m ⊕ sum m (λ r. get_or u r 0 ⊗ entry s r m)) ∷ [])

-- symbol p of the word whose first k symbols are x
unfoldable pub symbol : Settings → (ℕ → ℕ) → ℕ → ℕ
symbol s x p =
    let u : List ℕ = multipliers s x (k_of s) in
    word_at s (λ r. get_or u r 0) p

-- the i-th unit: 1 at i, else 0
unfoldable pub unit : ℕ → ℕ → ℕ
unit i m = cond (eqb m i) 1 0

-- the systematic form, as 16 rows of 16: row i is the word whose first k symbols are the i-th unit; zeros for settings not accepted
unfoldable pub systematic_of : Settings → List (List ℕ)
systematic_of s =
    elim (accepted s) [
      | true ↦ table 16 (λ i. table 16 (λ p. symbol s (unit i) p))
      | false ↦ table 16 (λ i. table 16 (λ p. 0))
    ]
