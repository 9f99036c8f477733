-- A word fits what arrived exactly if it has the byte that arrived at every known position.
use mathlib.Core.Path.{◌≡◌}
use mathlib.Core.Bool.{Bool, true, false, not, ◌||◌}
use Prim.Native.Nat.{ℕ, ◌<◌}
use lib.Dec.{T, eqb, eqb→eq, eqb_refl}
use mathlib.Core.Path.{subst}
use Rattle.galois.proofs.Cases.{at, all-below}
use Rattle.code.specs.declared.settings.Settings.{Settings}
use Rattle.code.specs.Settings.{n_of}
use Rattle.code.specs.Word.{word_at}
use Rattle.code.specs.Fitting.{Arrived, fits}

implied : (k e : Bool) → T (not k || e) → T k → T e
implied true e t h = t
implied false e t h = absurd h

implies : (k e : Bool) → (T k → T e) → T (not k || e)
implies true e h = h tt
implies false e h = tt

pub fits_at : (s : Settings) (a : Arrived) (u : ℕ → ℕ) (p : ℕ) → p < n_of s → T (fits s a u) → T (a.known p) → word_at s u p ≡ a.byte p
unfolding fits
fits_at s a u p hp f known =
    eqb→eq (word_at s u p) (a.byte p)
    (implied (a.known p) (eqb (word_at s u p) (a.byte p))
    (at (n_of s) (λ p. not (a.known p) || eqb (word_at s u p) (a.byte p)) f p hp) known)

pub fits_all : (s : Settings) (a : Arrived) (u : ℕ → ℕ) → ((p : ℕ) → p < n_of s → T (a.known p) → word_at s u p ≡ a.byte p) → T (fits s a u)
unfolding fits
fits_all s a u e =
    all-below (n_of s) (λ p. not (a.known p) || eqb (word_at s u p) (a.byte p))
    (λ p hp. implies (a.known p) (eqb (word_at s u p) (a.byte p))
    (λ known. subst (λ (b : ℕ). T (eqb (word_at s u p) b)) (e p hp known) (eqb_refl (word_at s u p))))
