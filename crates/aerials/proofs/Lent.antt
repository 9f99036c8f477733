-- What the joiner lends.
use mathlib.Core.Path.{◌≡◌, refl, ap, ◌∙◌}
use mathlib.Core.Bool.{false}
use mathlib.Core.Logic.{◌≢◌}
use mathlib.Core.List.{List}
use Prim.Native.Nat.{ℕ, zero, suc}
use Rattle.code.specs.declared.settings.Settings.{Settings}
use Rattle.aerials.specs.Pair.{frame_of, has, pair_cause}
use Rattle.aerials.specs.Parts.{bytes_of, no_part, join_of}
use Rattle.aerials.specs.Meaning.{Joining}
use Rattle.aerials.proofs.PairLaws.{checked}
use Rattle.aerials.proofs.PartLaws as law

-- a refused pair
refused : (s : Settings) (first second : List ℕ) (slot : ℕ) → pair_cause s first second ≢ 0 → join_of s first second slot ≡ no_part
refused s first second slot some = go (pair_cause s first second) refl
  where
    go : (n : ℕ) → pair_cause s first second ≡ n → join_of s first second slot ≡ no_part
    go zero e = absurd (some e)
    go (suc n) e = law.join_refused s first second slot n e

-- a slot that neither has
none : (s : Settings) (first second : List ℕ) (slot : ℕ) → has s first slot ≡ false → has s second slot ≡ false
    → join_of s first second slot ≡ no_part
none s first second slot a b = go (pair_cause s first second) refl
  where
    go : (n : ℕ) → pair_cause s first second ≡ n → join_of s first second slot ≡ no_part
    go zero e = law.join_accepted s first second slot e ∙ law.of_none s first second slot a b
    go (suc n) e = law.join_refused s first second slot n e

pub joining : Joining
unfolding bytes_of frame_of
joining =
    record {
      of_first = λ s first second e i h.
          let part = law.join_accepted s first second _ e ∙ law.of_first s first second (checked s first second e) i h in
          (part, ap (bytes_of first second) part);
      of_second = λ s first second e i h none.
          let part = law.join_accepted s first second _ e ∙ law.of_second s first second (checked s first second e) i h none in
          (part, ap (bytes_of first second) part);
      of_none = none;
      of_refused = refused;
    }
