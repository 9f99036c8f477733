-- A pair that is played is accepted with its settings.
use Rattle.std.proofs.Common.{◌≡◌, List, ℕ, sym, ◌∙◌}
use lib.Dec.{T}
use Rattle.std.specs.Prelude.{Option, Some, None, Ok, IfSome}
use Rattle.code.specs.declared.settings.Settings.{Settings}
use Rattle.code.specs.Settings.{accepted}
use Rattle.aerials.specs.Pair.{pair_cause}
use Rattle.aerials.proofs.PairLaws.{checked}
use Rattle.pairplay.specs.Steps.{pair_start}
use Rattle.pairplay.proofs.Starts.{played_accepted}
use Rattle.play.proofs.recorded.TwoRecorded.start.Goals as goal

played : (first second : List ℕ) (o : Option Settings) → pair_start first second ≡ Ok o
    → IfSome o (λ s. T (accepted s) × (pair_cause s first second ≡ 0))
played first second None starts = tt
played first second (Some s) starts =
    let accepts = played_accepted first second s starts in
    ((checked s first second accepts).settings, accepts)

pub returns : goal.returns
returns c =
    played c.args.self.now.0.now c.args.self.now.1.now c.in_ok-examine.field-0 (sym c.examine.ensures ∙ c.in_ok-examine.was)
