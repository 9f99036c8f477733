-- The rows of the systematic form: words that begin with a unit.
use mathlib.Core.Path.{◌≡◌, ◌∙◌}
use mathlib.Core.Bool.{true, false}
use Prim.Native.Nat.{ℕ, ◌≤◌, ◌<◌}
use native.Mathlib.Omega.{arith}
use lib.ListN.{get_or}
use Rattle.galois.specs.Table.{table}
use Rattle.code.specs.declared.settings.Settings.{Settings}
use Rattle.code.specs.Settings.{accepted, k_of}
use Rattle.code.specs.Word.{multipliers, symbol, unit, systematic_of}
use Rattle.code.proofs.Shape.{Shape}
use Rattle.code.proofs.Words.{unit_other, unit_below, word_at_zeros, zero_multipliers}
use Rattle.code.proofs.Symbols.{multiplier_below, symbol_source}

-- ---- words that begin with a unit

-- the multipliers of the word that begins with the r-th unit
abbrev pub unit_multiplier : Settings → ℕ → ℕ → ℕ
unit_multiplier s r q = get_or (multipliers s (unit r) (k_of s)) q 0

-- bytes
pub unit_multiplier_below : (s : Settings) (r q : ℕ) → unit_multiplier s r q < 256
unit_multiplier_below s r = multiplier_below s (unit r) (unit_below r) (k_of s)

module _ (s : Settings) (h : Shape s) where
  -- it begins with it
  pub unit_source : (r p : ℕ) → p < k_of s → symbol s (unit r) p ≡ unit r p
  unit_source r p hp = symbol_source s h (unit r) (unit_below r) p hp

  -- past the last source symbol it is 0
  pub unit_outside : (r p : ℕ) → k_of s ≤ r → symbol s (unit r) p ≡ 0
  unfolding symbol
  unit_outside r p hr =
      word_at_zeros s (unit_multiplier s r)
      (zero_multipliers s h (unit_multiplier s r) (unit_multiplier_below s r) (k_of s) (omega arith)
      (λ q hq. unit_source r q hq ∙ unit_other r q (λ same. omega arith)))
      p

-- ---- the systematic form, for settings that are accepted and not

pub systematic_accepted : (s : Settings) → accepted s ≡ true
    → table 16 (λ i. table 16 (λ p. symbol s (unit i) p)) ≡ systematic_of s
unfolding systematic_of
systematic_accepted s e = rw (e, systematic_of)

pub systematic_refused : (s : Settings) → accepted s ≡ false → table 16 (λ i. table 16 (λ p. 0)) ≡ systematic_of s
unfolding systematic_of
systematic_refused s e = rw (e, systematic_of)
