-- A pair that is played is accepted with the settings that it is played with.
use mathlib.Core.Path.{◌≡◌, refl, sym, ap, ◌∙◌}
use mathlib.Core.Bool.{Bool, true, false}
use mathlib.Core.List.{List}
use Prim.Native.Nat.{ℕ, ◌+◌}
use lib.Dec.{eqb, ltb}
use lib.ListN.{length}
use Rattle.std.specs.Prelude.{Option, Some, None, Result, Ok, Err}
use Rattle.code.specs.declared.settings.Settings.{Settings}
use Rattle.frames.specs.Fields.{settings_in}
use Rattle.aerials.specs.declared.PairCause.{PairCause}
use Rattle.aerials.specs.declared.PairCause.TheVariants.{BadLength}
use Rattle.aerials.specs.Causes.{Check, check_number}
use Rattle.aerials.specs.Pair.{pair_cause, pair_check}
use Rattle.aerials.proofs.CheckLaws.{check_numbered}
use Rattle.pairplay.specs.Transcript.{shown_by, pair_stop}
use Rattle.pairplay.specs.Steps.{pair_tested, pair_start}

module _ (first second : List ℕ) where
  -- the tests before any line have the number that stops the pair
  pub tested_number : check_number (pair_tested first second) ≡ pair_stop first second
  unfolding pair_tested pair_stop
  tested_number = go (ltb (length (shown_by first second)) 14) refl
    where
      go : (b : Bool) → ltb (length (shown_by first second)) 14 ≡ b → check_number (pair_tested first second) ≡ pair_stop first second
      go true short = rw (short, pair_tested, pair_stop)
      go false long = rw (long, pair_tested, pair_stop) (check_numbered (settings_in (shown_by first second)) first second)

  -- a pair that no cause stops is accepted with the settings that it shows
  unstopped : pair_tested first second ≡ Ok tt → pair_cause (settings_in (shown_by first second)) first second ≡ 0
  unfolding pair_tested
  unstopped e = go (ltb (length (shown_by first second)) 14) refl
    where
      go : (b : Bool) → ltb (length (shown_by first second)) 14 ≡ b → pair_cause (settings_in (shown_by first second)) first second ≡ 0
      go true short = let no : ◌≡◌ {A = Check} (Err BadLength) (Ok tt) = rw (short, pair_tested) at e in absurd (cc)
      go false long =
          let passed : pair_check (settings_in (shown_by first second)) first second ≡ Ok tt = rw (long, pair_tested) at e in
          sym (check_numbered (settings_in (shown_by first second)) first second) ∙ ap check_number passed

  -- and a pair that is played is one
  pub played_accepted : (s : Settings) → pair_start first second ≡ Ok (Some s) → pair_cause s first second ≡ 0
  unfolding pair_start
  played_accepted s starts = go (eqb (length first + length second) 0) refl (pair_tested first second) refl
    where
      go : (b : Bool) → eqb (length first + length second) 0 ≡ b → (a : Check) → pair_tested first second ≡ a
          → pair_cause s first second ≡ 0
      go true none a found = let no : Ok None ≡ Ok (Some s) = rw (none, pair_start) at starts in absurd (cc)
      go false some (Err c) found = let no : Err c ≡ Ok (Some s) = rw (some, found, pair_start) at starts in absurd (cc)
      go false some (Ok nothing) found =
          let same : Ok (Some (settings_in (shown_by first second))) ≡ Ok (Some s) = rw (some, found, pair_start) at starts in
          let shown : settings_in (shown_by first second) ≡ s = cc in
          rw shown at (unstopped found)
