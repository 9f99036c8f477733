-- The fitting words, and so what they say, depend only on what arrived at the positions of the word.
use mathlib.Core.Path.{◌≡◌, refl, ap, ap₂, fun_ext}
use mathlib.Core.Bool.{Bool, not, ◌&&◌, ◌||◌}
use Prim.Native.Nat.{ℕ, zero, suc, ◌<◌}
use native.Mathlib.Omega.{arith}
use lib.Dec.{eqb}
use lib.ListN.{get_or}
use Rattle.galois.specs.Bounded.{every}
use Rattle.code.specs.declared.settings.Settings.{Settings}
use Rattle.code.specs.Fitting.{Arrived, fits}
use Rattle.code.specs.Settings.{k_of, n_of}
use Rattle.code.specs.Word.{word_at}
use Rattle.elimination.specs.Values.{any_bytes, passing, has_value, values}

every-same : (m : ℕ) (f g : ℕ → Bool) → ((p : ℕ) → p < m → f p ≡ g p) → every m f ≡ every m g
unfolding every
every-same zero f g e = refl
every-same (suc m) f g e = ap₂ ◌&&◌ (every-same m f g (λ p h. e p (omega arith))) (e m (omega arith))

module _ (s : Settings) (a b : Arrived) (known : (p : ℕ) → p < n_of s → a.known p ≡ b.known p)
    (byte : (p : ℕ) → p < n_of s → a.byte p ≡ b.byte p) where
  same_fits : (u : ℕ → ℕ) → fits s a u ≡ fits s b u
  unfolding fits
  same_fits u =
      every-same (n_of s) (λ p. not (a.known p) || eqb (word_at s u p) (a.byte p))
      (λ p. not (b.known p) || eqb (word_at s u p) (b.byte p))
      (λ p h. ap₂ (λ (k : Bool) (x : ℕ). not k || eqb (word_at s u p) x) (known p h) (byte p h))

  pub same_values : (i : ℕ) → values s a i ≡ values s b i
  unfolding values has_value
  same_values i =
      ap
      (λ (f : (ℕ → ℕ) → Bool).
      passing 256 (λ b. any_bytes (k_of s) (λ l. f (λ r. get_or l r 0) && eqb (word_at s (λ r. get_or l r 0) i) b)))
      (fun_ext same_fits)
