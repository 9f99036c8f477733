-- So many bytes are drawn.
use Rattle.std.proofs.Common.{◌≡◌, ◌%◌, ℕ, ◌<◌, get_or}
use Rattle.drawing.specs.Drawn.{next_of, after_all}
use Rattle.drawing.proofs.Random.fill.Given as goal

abbrev pub invariant-loop-byte : goal.invariant-loop-byte
invariant-loop-byte l =
    record {
      state : l.self.0 ≡ after_all l.initial.self.0 l.byte-index;
      drawn : (i : ℕ) → i < l.byte-index → get_or l.bytes i 0 ≡ next_of (after_all l.initial.self.0 i) % 256;
    }
