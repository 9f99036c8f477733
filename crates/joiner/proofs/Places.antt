-- Where a slot's frame is: inside the recording, behind the frames of lower slots.
use mathlib.Core.Path.{◌≡◌, refl}
use mathlib.Core.Bool.{Bool, true, false}
use mathlib.Core.List.{List}
use Prim.Native.Nat.{ℕ, ◌<◌}
use Rattle.std.specs.Prelude.{Some, None}
use Rattle.code.specs.declared.settings.Settings.{Settings}
use Rattle.aerials.specs.Pair.{frames_in, has}
use Rattle.aerials.specs.Parts.{below}
use Rattle.aerials.specs.Sound.{Rising}
use Rattle.aerials.proofs.PartLaws.{stands_below}
use Rattle.joiner.specs.Places.{place_in}

module _ (s : Settings) (recording : List ℕ) (slot : ℕ) where
  pub place_some : (n : ℕ) → place_in s recording slot ≡ Some n → (has s recording slot ≡ true) × (n ≡ below s recording slot)
  unfolding place_in
  place_some n e = go (has s recording slot) refl
    where
      go : (b : Bool) → has s recording slot ≡ b → (b ≡ true) × (n ≡ below s recording slot)
      go true had = let is : Some (below s recording slot) ≡ Some n = rw (had, place_in) at e in (refl, cc)
      go false none = let no : None ≡ Some n = rw (none, place_in) at e in absurd (cc)

  pub place_none : place_in s recording slot ≡ None → has s recording slot ≡ false
  unfolding place_in
  place_none e = go (has s recording slot) refl
    where
      go : (b : Bool) → has s recording slot ≡ b → b ≡ false
      go true had = let no : Some (below s recording slot) ≡ None = rw (had, place_in) at e in absurd (cc)
      go false none = refl

  pub place_within : Rising s recording → (n : ℕ) → place_in s recording slot ≡ Some n → n < frames_in s recording
  place_within rising n e = let found = place_some n e in rw found.1 (stands_below s recording rising slot found.0).0
