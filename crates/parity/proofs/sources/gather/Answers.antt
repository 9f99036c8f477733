-- The loop puts two source symbols of every lane into their pair a turn; row is the one that holds source symbol 2j.
use mathlib.Core.Path.{◌≡◌, refl, ap, subst⁻¹, ◌∙◌}
use mathlib.Core.List.{List}
use native.Mathlib.Omega.{arith}
use Prim.Native.Nat.{ℕ, ◌+◌, ◌-◌, ◌*◌, ◌%◌, ◌≤◌, ◌<◌}
use lib.Dec.{T}
use lib.ListN.{length}
use Rattle.gathering.specs.Pairs.{pairs_of, Wide, gathered_of}
use Rattle.gathering.specs.declared.Source.{Source}
use Rattle.gathering.proofs.Gathered.{gathered_more, gathered_wide}
use Rattle.code.specs.declared.settings.Settings.{Settings}
use Rattle.code.specs.Settings.{accepted, k_of, n_of}
use Rattle.code.proofs.Shape.{shape}
use Rattle.protocol.specs.Lengths.{sender_len}
use Rattle.parity.specs.Sources.{source_in, row_of, source_of}
use Rattle.parity.proofs.Places.{row_first, row_next, row_below}
use Rattle.parity.proofs.Gathered.{source_held}
use Rattle.parity.proofs.sources.gather.Goals as goal

module _ (s : Settings) (passed : T (accepted s)) (t p row i : ℕ) (is : row ≡ row_of s t p i) where
  -- the row of a source symbol is one of the ring
  in_ring : row < n_of s - 1
  in_ring = let h = shape s passed in let some : 0 < n_of s - 1 = omega arith in omega (arith, row_below s t p i some)

  -- a source symbol of that row lies within the rows
  held : (rows : List ℕ) (x : Source) → length rows ≡ sender_len s → x ≡ source_in s row i → x.start + s.lanes ≤ length rows
  held rows x full read =
      subst⁻¹ (λ (x : Source). x.start + s.lanes ≤ length rows) read
      (omega (arith, source_held s row i (shape s passed) in_ring, full))

-- the row after it is of the next source symbol
row_after : (s : Settings) (t p row i symbols next : ℕ) → symbols ≡ n_of s → row ≡ row_of s t p i → next ≡ (row + 1) % (symbols - 1)
    → next ≡ row_of s t p (i + 1)
row_after s t p row i symbols next counted is after =
    after ∙ ap (λ (n : ℕ). (row + 1) % (n - 1)) counted ∙ row_next s t p i row is

pub loop-j-init : goal.loop-j-init
unfolding gathered_of
loop-j-init c =
    let a = c.args in
    (ap (λ (n : ℕ). (a.due + (n - 1) - a.p) % (n - 1)) c.symbols-ring.ensures ∙ row_first a.s a.due a.p, refl)

pub next_row-next-requires : goal.next_row-next-requires
next_row-next-requires c =
    omega (arith, in_ring _ c.requires.0 _ _ _ _ c.loop-j.invariant.0, c.symbols-ring.ensures)

pub source-first-requires : goal.source-first-requires
source-first-requires c = (c.requires.0, in_ring _ c.requires.0 _ _ _ _ c.loop-j.invariant.0)

pub source-second-requires : goal.source-second-requires
source-second-requires c =
    let next = row_after _ _ _ _ _ _ _ c.symbols-ring.ensures c.loop-j.invariant.0 c.next_row-next.ensures in
    (c.requires.0, in_ring _ c.requires.0 _ _ _ _ next)

pub pair_up-requires : goal.pair_up-requires
pair_up-requires c =
    let a = c.args in
    let l = c.loop-j in
    let next = row_after _ _ _ _ _ _ _ c.symbols-ring.ensures l.invariant.0 c.next_row-next.ensures in
    let h = shape a.s c.requires.0 in
    let few : l.j ≤ 8 = omega (arith, c.pairs-count.ensures) in (
      omega (arith, c.pairs-count.ensures),
      h.lanes_few,
      held _ c.requires.0 _ _ _ _ l.invariant.0 _ _ c.requires.1 c.source-first.ensures,
      held _ c.requires.0 _ _ _ _ next _ _ c.requires.1 c.source-second.ensures,
      subst⁻¹ Wide l.invariant.1
          (gathered_wide a.rows.now a.s.lanes (source_of a.s a.due a.p) a.pairs.now h.lanes_few c.requires.4 l.j few),
    )

pub next_row-row-requires : goal.next_row-row-requires
next_row-row-requires c =
    let next = row_after _ _ _ _ _ _ _ c.symbols-ring.ensures c.loop-j.invariant.0 c.next_row-next.ensures in
    omega (arith, in_ring _ c.requires.0 _ _ _ _ next, c.symbols-ring.ensures)

pub loop-j-preserved : goal.loop-j-preserved
loop-j-preserved c =
    let a = c.args in
    let l = c.loop-j in
    let next = row_after _ _ _ _ _ _ _ c.symbols-ring.ensures l.invariant.0 c.next_row-next.ensures in
    let turned : l.j * 2 + 1 + 1 ≡ (l.j + 1) * 2 = omega arith in (
      row_after _ _ _ _ _ _ _ c.symbols-ring.ensures next c.next_row-row.ensures ∙ ap (row_of a.s a.due a.p) turned,
      c.pair_up.ensures
          ∙ gathered_more a.rows.now a.s.lanes (source_of a.s a.due a.p) a.pairs.now l.j l.pairs c.source-first.result
          c.source-second.result l.invariant.1
          (c.source-first.ensures ∙ ap (λ (row : ℕ). source_in a.s row (l.j * 2)) l.invariant.0)
          (c.source-second.ensures ∙ ap (λ (row : ℕ). source_in a.s row (l.j * 2 + 1)) next),
    )

pub returns : goal.returns
returns c =
    let a = c.args in
    let all : c.loop-j.j ≡ pairs_of (k_of a.s) = omega (arith, c.pairs-count.ensures) in
    c.loop-j.invariant.1 ∙ ap (λ (m : ℕ). gathered_of a.rows.now a.s.lanes (source_of a.s a.due a.p) m a.pairs.now) all
