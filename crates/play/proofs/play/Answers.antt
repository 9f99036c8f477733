-- A line of `stop` fits.
use Rattle.std.proofs.Common.{◌≡◌, ◌≤◌, ℕ, List, length, ap, arith}
use lib.ListN.{length-take}
use Rattle.lines.specs.Lent.{Line, stop_text_on}
use Rattle.lines.proofs.LentLines.{stop_fits}
use Rattle.play.proofs.play.Goals as goal

fits : (n : ℕ) (line now : List ℕ) (len : ℕ) → record { line = now; len = len } ≡ stop_text_on n line → length now ≡ length line
    → len ≤ length now
fits n line now len is same = omega (arith, stop_fits n line, ap (λ (r : Line). r.len) is, same)

pub slice_bounds-out-end : goal.slice_bounds-out-end
slice_bounds-out-end g c =
    let f = c.write_stop_number-len in
    fits c.in-Err.n _ f.new.line f.result f.ensures f.auto.line

pub slice_bounds-put-end : goal.slice_bounds-put-end
slice_bounds-put-end g c =
    let f = c.write_stop_number-len in
    omega (arith, fits c.in-Err.n _ f.new.line f.result f.ensures f.auto.line, length-take f.result f.new.line)
