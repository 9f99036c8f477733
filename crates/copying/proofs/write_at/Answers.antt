-- The loop pastes one byte a turn.
use mathlib.Core.Path.{◌≡◌, refl, sym, ap, ◌∙◌}
use mathlib.Core.List.{List, ◌++◌}
use native.Mathlib.Numerals.{add-one}
use native.Mathlib.Omega.{arith}
use Prim.Native.Nat.{ℕ, ◌+◌, ◌-◌, zero-le}
use lib.ListN.{length, get_or, set, take, drop, length-set}
use lib.Seq.{paste, paste-zero, paste-suc, take-length}
use Rattle.copying.proofs.write_at.Goals as goal

pub loop-i-init : goal.loop-i-init
loop-i-init c =
    (zero-le, refl, paste-zero c.args.out.now c.args.start c.args.bytes.now)

pub loop-i-preserved : goal.loop-i-preserved
loop-i-preserved c = (
  omega arith,
  simp length-set c.loop-i.invariant.1,
  ap (λ (l : List ℕ). set l (c.args.start + c.loop-i.i) (get_or c.args.bytes.now c.loop-i.i 0)) c.loop-i.invariant.2
      ∙ paste-suc c.args.out.now c.args.start c.args.bytes.now c.loop-i.i 0 (omega arith) (omega arith)
      ∙ ap (λ (k : ℕ). paste c.args.out.now c.args.start c.args.bytes.now k) (sym (add-one c.loop-i.i)),
)

pub shape_of-out : goal.shape_of-out
shape_of-out c =
    c.loop-i.invariant.1

pub returns : goal.returns
returns c =
    let all : c.loop-i.i ≡ length c.args.bytes.now = omega arith in
    c.loop-i.invariant.2 ∙ ap (λ (k : ℕ). paste c.args.out.now c.args.start c.args.bytes.now k) all
    ∙ ap (λ (l : List ℕ). take c.args.start c.args.out.now ++ l ++ drop (c.args.start + length c.args.bytes.now) c.args.out.now) (take-length c.args.bytes.now)
