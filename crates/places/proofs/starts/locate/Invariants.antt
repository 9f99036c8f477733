-- The loop fills the places, the flags and the roles from the front; the next place is in the row that begins at the start, at the
-- offset.
use mathlib.Core.Path.{◌≡◌}
use Prim.Native.Nat.{◌+◌, ◌*◌}
use Rattle.galois.specs.Table.{table}
use Rattle.code.proofs.Shape.{Shape}
use Rattle.protocol.specs.Verdict.{row_at}
use Rattle.places.specs.Places.{flags_of}
use Rattle.places.proofs.Filled.{up_to}
use Rattle.places.proofs.Places.{place_of}
use Rattle.places.proofs.Flags.{parity_flag, first_role}
use Rattle.places.proofs.starts.locate.Given as goal

abbrev pub invariant-loop-p : goal.invariant-loop-p
invariant-loop-p l = record {
  shaped : Shape l.s;
  starts : l.start ≡ row_at l.s l.t l.i l.p;
  offsets : l.offset ≡ 1 + l.p * l.s.lanes;
  placed : l.located.places ≡ table 16 (up_to 0 l.p (place_of l.s l.t l.i));
  flagged : l.located.flags ≡ table 16 (up_to 0 l.p (parity_flag l.s (flags_of l.s l.rows l.end l.t l.i)));
  roled : l.located.roles ≡ table 16 (up_to 16 l.p (first_role l.s (flags_of l.s l.rows l.end l.t l.i)));
}
