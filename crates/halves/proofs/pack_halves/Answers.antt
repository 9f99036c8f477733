-- The loop fills the bytes from the front, each with the halves of two coefficients; those behind them are 0 from the start.
use mathlib.Core.List.{[]}
use mathlib.Core.Path.{refl}
use native.Mathlib.Nat.{not-suc-le-zero}
use native.Mathlib.Omega.{arith}
use Prim.Native.Nat.{ℕ, ◌+◌, ◌*◌, ◌/◌, ◌%◌}
use lib.ListN.{get_or, length-set}
use Rattle.galois.proofs.ByIndex.{filled_more, kept_more}
use Rattle.halves.proofs.Planes.{packed, zeros}
use Rattle.halves.proofs.pack_halves.Goals as goal

pub loop-j-init : goal.loop-j-init
loop-j-init g c =
    (refl, λ k h. absurd (not-suc-le-zero h), λ k h. zeros 8 k)

pub loop-j-preserved : goal.loop-j-preserved
loop-j-preserved g c =
    let half : ℕ → ℕ = λ i. get_or (get_or c.args.rows.now i []) c.args.q 0 / g.row.UNIT % 16 in (
      simp length-set c.loop-j.invariant.0,
      filled_more (λ k. half (2 * k) + half (2 * k + 1) * 16) 0 c.loop-j.out c.loop-j.j _ (omega arith) refl c.loop-j.invariant.1,
      kept_more (λ _. 0) 0 c.loop-j.out c.loop-j.j _ c.loop-j.invariant.2,
    )

pub returns : goal.returns
returns g c =
    let whole : ℕ → ℕ = λ i. get_or (get_or c.args.rows.now i []) c.args.q 0 / g.row.UNIT in
    record {
      halves = packed c.loop-j.out whole c.args.count (λ k h. c.loop-j.invariant.1 k (omega arith));
      rest = λ k h. c.loop-j.invariant.2 k (omega arith);
    }
