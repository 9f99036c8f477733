-- The table of a frame's report, read in its three parts: what every call in a slot meets, the header, and the frame's slot; and that of
-- a look-up in its two.
use Rattle.std.specs.Prelude.{Ok, Err}
use mathlib.Core.Path.{◌≡◌, ap, ◌∙◌}
use mathlib.Core.Bool.{Bool, true, false, not}
use mathlib.Core.List.{List, [], ◌∷◌, ◌++◌}
use Prim.Native.Nat.{ℕ}
use lib.IntN.{ℤ}
use lib.ListN.{length, drop}
use Rattle.protocol.specs.declared.Receiver.{Receiver}
use Rattle.protocol.specs.declared.Cause.{Cause}
use Rattle.protocol.specs.declared.Cause.TheVariants.{OtherSlot, OutOfReach}
use Rattle.protocol.specs.Lengths.{receiver_len, exactly_framed}
use Rattle.protocol.specs.Frame.{slot_bytes}
use Rattle.protocol.specs.Causes.{Row, row, first_of, agree, slot_table, header_table, slot_cause, header_cause, frame_cause_of}
use Rattle.protocol.specs.Causes.{loss_table, loss_cause, out_of_reach, look_up_cause}
use Rattle.protocol.proofs.CauseTables.{followed_by, one_below}

module _ (version : ℕ) (x : Receiver) (rows frame message : List ℕ) where
  -- what is lent has its lengths
  abbrev pub framed : Bool
  framed = exactly_framed x.settings (receiver_len x.settings) (length rows) (length message) (length frame)

  -- the frame is of the slot due
  abbrev pub of_slot : Bool
  of_slot = agree 4 (drop 10 frame) (slot_bytes x.due)

  abbrev slot_row : List Row
  slot_row = row (not of_slot) OtherSlot ∷ []

  parts : frame_cause_of version x rows frame message
      ≡ followed_by (slot_cause x.settings framed x.due) (followed_by (header_cause version x.settings frame) (first_of slot_row))
  unfolding frame_cause_of slot_cause header_cause
  parts =
      one_below (slot_table x.settings framed x.due) (header_table version x.settings frame ++ slot_row)
      ∙ ap (followed_by (slot_cause x.settings framed x.due)) (one_below (header_table version x.settings frame) slot_row)

  pub refused_in_slot : (c : Cause) → slot_cause x.settings framed x.due ≡ Err c
      → Err c ≡ frame_cause_of version x rows frame message
  refused_in_slot c e = rw (parts, e)

  module _ (clear : slot_cause x.settings framed x.due ≡ Ok tt) where
    pub refused_by_header : (c : Cause) → header_cause version x.settings frame ≡ Err c
        → Err c ≡ frame_cause_of version x rows frame message
    refused_by_header c e = rw (parts, clear, e)

    module _ (headed : header_cause version x.settings frame ≡ Ok tt) where
      pub other_slot : of_slot ≡ false → Err OtherSlot ≡ frame_cause_of version x rows frame message
      other_slot e = rw (parts, clear, headed, e)

      pub no_cause : of_slot ≡ true → (Ok tt) ≡ frame_cause_of version x rows frame message
      no_cause e = rw (parts, clear, headed, e)

-- ---- a look-up

module _ (x : Receiver) (rows : List ℕ) (number : ℤ) (message : List ℕ) where
  -- the message is out of reach
  abbrev beyond : Bool
  beyond = out_of_reach x.settings x.due number

  two_parts : look_up_cause x rows number message ≡ followed_by (loss_cause x rows message) (first_of (row beyond OutOfReach ∷ []))
  unfolding look_up_cause loss_cause
  two_parts = one_below (loss_table x rows message) (row beyond OutOfReach ∷ [])

  pub refused_as_loss : (c : Cause) → loss_cause x rows message ≡ Err c → Err c ≡ look_up_cause x rows number message
  refused_as_loss c e = rw (two_parts, e)

  module _ (clear : loss_cause x rows message ≡ Ok tt) where
    pub refused_out_of_reach : beyond ≡ true → Err OutOfReach ≡ look_up_cause x rows number message
    refused_out_of_reach e = rw (two_parts, clear, e)

    pub look_up_clear : beyond ≡ false → (Ok tt) ≡ look_up_cause x rows number message
    look_up_clear e = rw (two_parts, clear, e)
