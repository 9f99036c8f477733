-- Whether a frame stops the player: by the causes of its header, and then by its slot.
use Rattle.std.specs.Prelude.{Ok, Err}
use mathlib.Core.Path.{◌≡◌, refl, sym}
use mathlib.Core.Bool.{Bool, true, false, ◌||◌}
use mathlib.Core.List.{List}
use Prim.Native.Nat.{ℕ, ◌+◌, ◌≤◌, ◌<◌}
use native.Mathlib.Omega.{arith}
use lib.Dec.{ltb}
use borrow.Author.Tests.{ltb-false, lt-ltb, le-ltb}
use Rattle.protocol.specs.declared.Receiver.{Receiver}
use Rattle.protocol.specs.declared.Cause.{Cause}
use Rattle.protocol.specs.declared.Cause.TheVariants.{OtherSlot}
use Rattle.protocol.specs.States.{reported_on}
use Rattle.protocol.specs.Causes.{first_of, header_table, header_cause}
use Rattle.protocol.proofs.CauseTables.{check_clear, followed_by, one_below, both_clear}
use Rattle.frames.specs.Fields.{slot_in}
use Rattle.stops.specs.Stops.{gap_table, frame_stop}

-- neither of two tests holds
neither : (a b : Bool) → (a || b) ≡ false → (a ≡ false) × (b ≡ false)
neither true b e = let z : ◌≡◌ {A = ℕ} 0 1 = cc in absurd (omega arith)
neither false b e = (refl, e)

module _ (x : Receiver) (frame : List ℕ) where
  -- the header's causes come first
  by : frame_stop x frame ≡ followed_by (header_cause 1 x.settings frame) (first_of (gap_table x frame))
  unfolding frame_stop header_cause
  by = one_below (header_table 1 x.settings frame) (gap_table x frame)

  pub stop_header : (c : Cause) → header_cause 1 x.settings frame ≡ Err c → Err c ≡ frame_stop x frame
  stop_header c e = rw (by, e)

  module _ (own : header_cause 1 x.settings frame ≡ Ok tt) where
    pub stop_below : slot_in frame < x.due → Err OtherSlot ≡ frame_stop x frame
    stop_below h = rw (by, own, lt-ltb (slot_in frame) x.due h)

    module _ (onward : x.due ≤ slot_in frame) where
      pub stop_above : x.due + 4095 < slot_in frame → Err OtherSlot ≡ frame_stop x frame
      stop_above h = rw (by, own, le-ltb (slot_in frame) x.due onward, lt-ltb (x.due + 4095) (slot_in frame) h)

      pub passes : slot_in frame ≤ x.due + 4095 → (Ok tt) ≡ frame_stop x frame
      passes h = rw (by, own, le-ltb (slot_in frame) x.due onward, le-ltb (x.due + 4095) (slot_in frame) h)

-- ---- a frame that passes

-- its mark and settings are the receiver's, and its slot isn't too low or too high
pub record Passing (x : Receiver) (frame : List ℕ) : Type 0 where
  pub own : header_cause 1 x.settings frame ≡ Ok tt
  pub low : x.due ≤ slot_in frame
  pub high : slot_in frame ≤ x.due + 4095

module _ (x : Receiver) (frame : List ℕ) where
  -- a frame that doesn't stop the player passes
  pub stop_passing : frame_stop x frame ≡ Ok tt → Passing x frame
  stop_passing e =
      let low : Bool = ltb (slot_in frame) x.due in
      let high : Bool = ltb (x.due + 4095) (slot_in frame) in
      let a = both_clear (header_cause 1 x.settings frame) (first_of (gap_table x frame)) (rw (by x frame) at e) in
      let b = neither low high (check_clear (low || high) OtherSlot (Ok tt) a.1).0 in
      record { own = a.0; low = ltb-false (slot_in frame) x.due b.0; high = ltb-false (x.due + 4095) (slot_in frame) b.1 }

  -- and the other way round
  pub passing_stop : Passing x frame → frame_stop x frame ≡ Ok tt
  passing_stop h = sym (passes x frame h.own h.low h.high)

  -- a frame that passes where its slot is above the slot due passes at the next slot too
  pub passing_onward : frame_stop x frame ≡ Ok tt → x.due < slot_in frame → Passing (reported_on x) frame
  passing_onward e above =
      let h = stop_passing e in
      record { own = h.own; low = omega arith; high = omega arith }
