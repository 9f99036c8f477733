-- Every pair: what its steps hand out, one after another, is its transcript, and they end.
use mathlib.Core.Path.{◌≡◌, refl, sym, ap, ◌∙◌}
use mathlib.Core.Bool.{Bool, true, false}
use mathlib.Core.List.{List}
use Prim.Native.Nat.{ℕ, suc, ◌+◌}
use lib.Dec.{eqb}
use lib.ListN.{length}
use Rattle.std.specs.Prelude.{Some, Ok, Err}
use Rattle.code.specs.declared.settings.Settings.{Settings}
use Rattle.frames.specs.Fields.{settings_in}
use Rattle.lines.specs.Text.{stop_text}
use Rattle.aerials.specs.Causes.{Check, pair_number, check_number}
use Rattle.aerials.proofs.CheckLaws.{some_number}
use Rattle.steps.specs.Steps.{begin_of}
use Rattle.pairplay.specs.Transcript.{shown_by, pair_stop, pair_played, pair_transcript}
use Rattle.pairplay.specs.Steps.{pair_tested, pair_start}
use Rattle.pairplay.specs.Printed.{PairPrinted, PairFitting, PlayingPair}
use Rattle.pairplay.proofs.Starts.{tested_number, played_accepted}
use Rattle.pairplay.proofs.FedSteps.{from_start}

module _ (first second rows message : List ℕ) (line : ℕ → List ℕ) (fit : PairFitting first second rows message) where
  -- a pair, by its tests before any line
  printed_by : (b : Bool) → eqb (length first + length second) 0 ≡ b → (a : Check) → pair_tested first second ≡ a
      → PairPrinted first second rows message line (pair_transcript first second)
  unfolding pair_start pair_transcript PairFitting
  printed_by true empty a found = rw (empty, pair_transcript) (PairPrinted.nothing (rw (empty, pair_start)))
  printed_by false some (Err c) found =
      let (n, is) = some_number c in
      let stops : pair_stop first second ≡ suc n = sym (tested_number first second) ∙ ap check_number found ∙ is in
      let text : PairPrinted first second rows message line (stop_text (pair_number c)) =
      PairPrinted.refused c (rw (some, found, pair_start)) in
      rw (some, stops, pair_transcript) (rw is at text)
  printed_by false some (Ok nothing) found =
      let s : Settings = settings_in (shown_by first second) in
      let starts : pair_start first second ≡ Ok (Some s) = rw (some, found, pair_start) in
      let stops : pair_stop first second ≡ 0 = sym (tested_number first second) ∙ ap check_number found in
      let exact = fit s starts in
      rw (some, stops, pair_transcript)
      (PairPrinted.played s (begin_of s rows message) (pair_played s first second) starts refl
      (from_start first second rows message line s (played_accepted first second s starts) exact.0 exact.1))

-- every pair
pub played_pair : PlayingPair
unfolding PlayingPair
played_pair first second rows message line fit =
    printed_by first second rows message line fit (eqb (length first + length second) 0) refl (pair_tested first second) refl
