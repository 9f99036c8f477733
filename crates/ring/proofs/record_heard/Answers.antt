-- The mark is stored, and then the body is pasted after it; the body is the frame after its header.
use mathlib.Core.Path.{◌≡◌}
use mathlib.Core.List.{List, ◌∷◌, ◌++◌}
use native.Mathlib.Omega.{arith}
use Prim.Native.Nat.{ℕ, ◌+◌, ◌-◌, ◌*◌, ◌≤◌}
use lib.ListN.{length, set, take, drop, length-set, length-drop}
use lib.Seq.{take_all}
use Rattle.std.proofs.lemmas.Grind.{common_steps}
use Rattle.std.proofs.lemmas.Slice.{overwrites}
use Rattle.code.specs.declared.settings.Settings.{Settings}
use Rattle.protocol.specs.Lengths.{frame_len, row_len}
use Rattle.protocol.specs.Rows.{put_row}
use Rattle.ring.proofs.record_heard.Goals as goal

-- a frame has its header, and the rest of it is a row's body
headed : (s : Settings) (frame : List ℕ) → length frame ≡ frame_len s → 14 ≤ length frame
unfolding frame_len
headed s frame e = omega arith

body : (s : Settings) (frame : List ℕ) → length frame ≡ frame_len s
    → (take (length frame - 14) (drop 14 frame) ≡ drop 14 frame) × (1 + length (drop 14 frame) ≡ row_len s)
unfolding frame_len row_len
body s frame e =
    let rest : length (drop 14 frame) ≡ length frame - 14 = length-drop 14 frame in
    (take_all (length frame - 14) (drop 14 frame) (omega arith), omega arith)

-- the mark, and the body after it, are a row
marked : (rows body rest out : List ℕ) (r size start : ℕ) → start ≡ r * size → start + size ≤ length rows
    → rest ≡ body → 1 + length body ≡ size
    → out ≡ take (start + 1) (set rows start 1) ++ rest ++ drop (start + 1 + length rest) (set rows start 1)
    → out ≡ put_row size r (1 ∷ body) rows
unfolding put_row
marked rows body rest out r size start place fits same long was = grind (arith, common_steps, overwrites)

pub bounds-rows-start : goal.bounds-rows-start
unfolding row_len
bounds-rows-start c = omega arith

pub slice_bounds-write_at-count : goal.slice_bounds-write_at-count
slice_bounds-write_at-count c =
    headed c.args.s c.args.frame.now c.requires.2

pub slice_bounds-write_at-start : goal.slice_bounds-write_at-start
slice_bounds-write_at-start c =
    headed c.args.s c.args.frame.now c.requires.2

pub write_at-requires : goal.write_at-requires
write_at-requires c =
    let b = body c.args.s c.args.frame.now c.requires.2 in
    rw (b.0, length-set) (omega (arith, b.1))

pub returns : goal.returns
returns c =
    let b = body c.args.s c.args.frame.now c.requires.2 in
    marked c.args.rows.now _ _ _ _ _ c.row_start-start.result c.row_start-start.ensures.start (omega arith) b.0 b.1 c.write_at.ensures
