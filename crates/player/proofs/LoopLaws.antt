-- What a loop over fillings needs: that what is printed fits, that it ends, and how long its rows and its messages are at most.
use mathlib.Core.Path.{◌≡◌}
use mathlib.Core.Bool.{false}
use mathlib.Core.List.{List}
use native.Mathlib.Nat.{mul-le-mul}
use native.Mathlib.Omega.{arith}
use Prim.Native.Nat.{ℕ, ◌≤◌, ◌<◌}
use lib.Dec.{T}
use lib.ListN.{length}
use Rattle.code.specs.declared.settings.Settings.{Settings}
use Rattle.code.specs.Settings.{accepted}
use Rattle.code.proofs.Shape.{shape}
use Rattle.protocol.specs.Lengths.{message_len, body_len, row_len, row_count, receiver_len}
use Rattle.lines.specs.Lent.{longest}
use Rattle.progress.specs.declared.Player.{Player}
use Rattle.reporting.specs.Outcomes.{printed_on}
use Rattle.player.specs.Filling.{gathered, filled_of}
use Rattle.player.proofs.FillLaws.{print_fits}
use Rattle.player.proofs.Gathering.{gathered_fewer}
use Rattle.player.proofs.StepsLeft.{steps_left}

-- ---- a filling

-- a buffer that is as long as before has room for what was printed
pub filled_fits : (p : Player) (recording rows message out : List ℕ) → length (filled_of p recording rows message out).out ≡ length out
    → (filled_of p recording rows message out).len ≤ length out
unfolding filled_of
filled_fits p recording rows message out = print_fits out (gathered recording (length out) p rows message)

-- with room for the longest line, a filling that leaves more to play leaves fewer steps
pub filled_fewer : (p : Player) (recording rows message out : List ℕ) → longest message ≤ length out
    → (filled_of p recording rows message out).over ≡ false
    → steps_left recording (filled_of p recording rows message out).player < steps_left recording p
unfolding filled_of printed_on
filled_fewer p recording rows message out = gathered_fewer recording (length out) p rows message

-- ---- a recording that is played

-- its rows and its messages are at most as long as these
pub rows_few : (s : Settings) → T (accepted s) → receiver_len s ≤ 30750
unfolding receiver_len row_count row_len body_len
rows_few s ok =
    let h = shape s ok in
    mul-le-mul {n₂ = 30} {m₂ = 1025} (omega (arith, h)) (omega (arith, mul-le-mul {n₂ = 16} {m₂ = 64} h.symbols_few h.lanes_few))

pub message_few : (s : Settings) → T (accepted s) → message_len s ≤ 960
unfolding message_len
message_few s ok =
    let h = shape s ok in
    mul-le-mul {n₂ = 15} {m₂ = 64} (omega (arith, h)) h.lanes_few
