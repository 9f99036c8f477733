-- The cases of what elimination says.
use mathlib.Core.Path.{◌≡◌}
use mathlib.Core.Bool.{Bool, true, false}
use Prim.Native.Nat.{ℕ}
use Rattle.code.specs.declared.settings.Settings.{Settings}
use Rattle.elimination.specs.declared.lane.Symbol.TheVariants.{Clash, Lost, Whole}
use Rattle.elimination.specs.declared.reduced.Reduced.{Reduced}
use Rattle.elimination.specs.Elimination.{combined, clashes, differs, symbol_of}

-- what elimination says of position i
module _ (s : Settings) (x : Reduced) (known : ℕ → Bool) (byte : ℕ → ℕ) (i : ℕ) where
  pub symbol_clash : clashes s x known byte ≡ true → symbol_of s x known byte i ≡ Clash
  unfolding symbol_of
  symbol_clash c = rw (c, symbol_of)

  pub symbol_lost : clashes s x known byte ≡ false → differs s x i ≡ true → symbol_of s x known byte i ≡ Lost
  unfolding symbol_of
  symbol_lost c d = rw (c, d, symbol_of)

  pub symbol_whole : clashes s x known byte ≡ false → differs s x i ≡ false
      → symbol_of s x known byte i ≡ Whole (combined s x byte i)
  unfolding symbol_of
  symbol_whole c d = rw (c, d, symbol_of)
