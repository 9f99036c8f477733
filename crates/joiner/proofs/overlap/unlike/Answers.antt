-- Each turn passes a frame, or two that stand for one slot and are alike.
use mathlib.Core.Path.{◌≡◌, sym}
use mathlib.Core.Bool.{Bool, true, false, not}
use mathlib.Core.List.{List}
use native.Mathlib.Omega.{arith}
use Prim.Native.Nat.{ℕ, suc, ◌+◌, ◌≤◌, ◌<◌, zero-le}
use lib.Dec.{eqb}
use Rattle.std.specs.Cmp.Lexicographic.{pointwise}
use Rattle.code.specs.declared.settings.Settings.{Settings}
use Rattle.aerials.specs.Pair.{frames_in, frame_of, slot_of, unlike}
use Rattle.aerials.specs.Sound.{Rising}
use Rattle.joiner.proofs.SameFrames.{alike}
use Rattle.joiner.proofs.SameFrames.{unlike as differing}
use Rattle.joiner.proofs.Overlaps.{Passed, none_passed, first_behind, second_behind, both_alike, none_unlike, one_unlike}
use Rattle.joiner.proofs.overlap.unlike.Goals as goal

-- A turn: frame i of the one and frame j of the other, of slots x and y.
module _ (s t : Settings) (first second : List ℕ) (same : t ≡ s) (up : Rising s first) (over : Rising t second) (i j m n x y : ℕ)
    (passed : Passed s first second i j) (few : m ≡ frames_in s first) (many : n ≡ frames_in t second) (below : i < m) (under : j < n)
    (x_is : x ≡ slot_of s first i) (y_is : y ≡ slot_of t second j) where
  hi : i < frames_in s first
  hi = omega (arith, below, few)

  hj : j < frames_in s second
  hj = let all : n ≡ frames_in s second = rw same at many in omega (arith, under, all)

  climbs : Rising s second
  climbs = rw same at over

  other : y ≡ slot_of s second j
  other = rw same at y_is

  after_first : x < y → Passed s first second (i + 1) j
  after_first less =
      let next : i + 1 ≡ suc i = omega arith in
      rw next (first_behind s first second up climbs i j passed hi hj (omega (arith, x_is, other, less)))

  after_second : y < x → Passed s first second i (j + 1)
  after_second less =
      let next : j + 1 ≡ suc j = omega arith in
      rw next (second_behind s first second up climbs i j passed hi hj (omega (arith, x_is, other, less)))

  -- both stand for one slot
  module _ (not-less : y ≤ x) (not-more : x ≤ y) (a b : List ℕ) (a_is : a ≡ frame_of s first i) (b_is : b ≡ frame_of t second j)
      (differ : Bool) (tested : differ ≡ not (pointwise eqb a b)) where
    one-slot : slot_of s first i ≡ slot_of s second j
    one-slot = omega (arith, x_is, other, not-less, not-more)

    met : b ≡ frame_of s second j
    met = rw same at b_is

    after_both : differ ≡ false → Passed s first second (i + 1) (j + 1)
    after_both e =
        let equal = alike s first second i j hi hj a b a_is met differ tested e in
        let next-i : i + 1 ≡ suc i = omega arith in
        let next-j : j + 1 ≡ suc j = omega arith in
        rw (next-i, next-j) (both_alike s first second up climbs i j passed hi hj one-slot (rw equal tt))

    found : differ ≡ true → unlike s first second ≡ true
    found e = one_unlike s first second i j hi hj one-slot (differing s first second i j hi hj a b a_is met differ tested e)

pub loop-i-init : goal.loop-i-init
loop-i-init c =
    (zero-le, zero-le, none_passed c.args.first.recorded.settings c.args.first.recorded.bytes.now c.args.second.recorded.bytes.now)

pub loop-i-preserved-then-x-y : goal.loop-i-preserved-then-x-y
loop-i-preserved-then-x-y c =
    let l = c.loop-i in (
      omega arith,
      l.invariant.1,
      after_first _ _ _ _ c.requires c.args.first.rises c.args.second.rises _ _ _ _ _ _ l.invariant.2 c.len-m.ensures c.len-n.ensures
          c.loop-i-test.true c.if-j-n.true c.slot-x.ensures c.slot-y.ensures c.if-x-y.true,
    )

pub loop-i-preserved-then-y-x : goal.loop-i-preserved-then-y-x
loop-i-preserved-then-y-x c =
    let l = c.loop-i in (
      l.invariant.0,
      omega arith,
      after_second _ _ _ _ c.requires c.args.first.rises c.args.second.rises _ _ _ _ _ _ l.invariant.2 c.len-m.ensures c.len-n.ensures
          c.loop-i-test.true c.if-j-n.true c.slot-x.ensures c.slot-y.ensures c.if-y-x.true,
    )

pub returns-then-ne : goal.returns-then-ne
returns-then-ne c =
    let l = c.loop-i in
    sym
    (found _ _ _ _ c.requires c.args.first.rises c.args.second.rises _ _ _ _ _ _ l.invariant.2 c.len-m.ensures c.len-n.ensures
    c.loop-i-test.true c.if-j-n.true c.slot-x.ensures c.slot-y.ensures c.if-x-y.false c.if-y-x.false _ _
    c.frame.ensures.bytes c.frame-else-y-x.ensures.bytes _ c.ne.ensures c.if-ne.true)

pub loop-i-preserved : goal.loop-i-preserved
loop-i-preserved c =
    let l = c.loop-i in (
      omega arith,
      omega arith,
      after_both _ _ _ _ c.requires c.args.first.rises c.args.second.rises _ _ _ _ _ _ l.invariant.2 c.len-m.ensures c.len-n.ensures
          c.loop-i-test.true c.if-j-n.true c.slot-x.ensures c.slot-y.ensures c.if-x-y.false c.if-y-x.false _ _
          c.frame.ensures.bytes c.frame-else-y-x.ensures.bytes _ c.ne.ensures c.if-ne.false,
    )

pub returns-else-j-n : goal.returns-else-j-n
returns-else-j-n c =
    let s : Settings = c.args.first.recorded.settings in
    let first : List ℕ = c.args.first.recorded.bytes.now in
    let second : List ℕ = c.args.second.recorded.bytes.now in
    let n : c.len-n.result ≡ frames_in s second = rw c.requires at c.len-n.ensures in
    sym (none_unlike s first second (λ x y hx hy. c.loop-i.invariant.2.of_second x y hx (omega (arith, n, c.if-j-n.false))))

pub returns-after-loop-i : goal.returns-after-loop-i
returns-after-loop-i c =
    let s : Settings = c.args.first.recorded.settings in
    let first : List ℕ = c.args.first.recorded.bytes.now in
    let second : List ℕ = c.args.second.recorded.bytes.now in
    sym
    (none_unlike s first second (λ x y hx hy. c.loop-i.invariant.2.of_first x y (omega (arith, c.loop-i-test.false, c.len-m.ensures)) hy))
