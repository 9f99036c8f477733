-- The loop fills the bytes from the front, each with the halves of two coefficients; those behind them are 0 from the start.
use mathlib.Core.List.{[]}
use mathlib.Core.Path.{◌≡◌}
use Prim.Native.Nat.{ℕ, ◌+◌, ◌*◌, ◌/◌, ◌%◌, ◌<◌, ◌≤◌}
use lib.ListN.{length, get_or}
use Rattle.halves.proofs.pack_halves.Given as goal

abbrev pub invariant-loop-j : goal.invariant-loop-j
invariant-loop-j g l =
    let half : ℕ → ℕ = λ i. get_or (get_or l.rows i []) l.q 0 / g.row.UNIT % 16 in
    (length l.out ≡ 8) × ((k : ℕ) → k < l.j → get_or l.out k 0 ≡ half (2 * k) + half (2 * k + 1) * 16)
    × ((k : ℕ) → l.j ≤ k → get_or l.out k 0 ≡ 0)
