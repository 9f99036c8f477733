-- How a pair starts, by its tests.
use mathlib.Core.Path.{◌≡◌, ◌∙◌}
use mathlib.Core.Bool.{false}
use mathlib.Core.List.{List}
use Prim.Native.Nat.{ℕ, ◌+◌, ◌≤◌, ◌<◌}
use lib.Dec.{eqb}
use lib.ListN.{length}
use borrow.Author.Tests.{lt-ltb, le-ltb, eq-eqb}
use Rattle.std.specs.Prelude.{Some, None, Ok, Err}
use Rattle.frames.specs.Fields.{settings_in}
use Rattle.aerials.specs.declared.PairCause.{PairCause}
use Rattle.aerials.specs.declared.PairCause.TheVariants.{BadLength}
use Rattle.aerials.specs.Pair.{pair_check}
use Rattle.pairplay.specs.Transcript.{shown_by}
use Rattle.pairplay.specs.Steps.{pair_tested, pair_start}

-- nothing is there
pub both_empty : (first second : List ℕ) → length first + length second ≡ 0 → Ok None ≡ pair_start first second
unfolding pair_start
both_empty first second none = rw (eq-eqb (length first + length second) 0 none, pair_start)

module _ (first second : List ℕ) (some : eqb (length first + length second) 0 ≡ false) where
  -- refused by the tests
  by_cause : (c : PairCause) → pair_tested first second ≡ Err c → Err c ≡ pair_start first second
  unfolding pair_start
  by_cause c e = rw (some, pair_start) (rw e)

  -- too short to show settings
  pub short : length (shown_by first second) < 14 → Err BadLength ≡ pair_start first second
  unfolding pair_tested
  short few = by_cause BadLength (rw (lt-ltb (length (shown_by first second)) 14 few, pair_tested))

  -- checked with the settings that are shown
  module _ (long : 14 ≤ length (shown_by first second)) where
    checks : pair_tested first second ≡ pair_check (settings_in (shown_by first second)) first second
    unfolding pair_tested
    checks = rw (le-ltb (length (shown_by first second)) 14 long, pair_tested)

    pub refused : (c : PairCause) → pair_check (settings_in (shown_by first second)) first second ≡ Err c → Err c ≡ pair_start first second
    refused c e = by_cause c (checks ∙ e)

    pub plays : pair_check (settings_in (shown_by first second)) first second ≡ Ok tt
        → Ok (Some (settings_in (shown_by first second))) ≡ pair_start first second
    unfolding pair_start
    plays e = rw (some, pair_start) (rw (checks ∙ e))
