-- When a report meets no cause.
use Rattle.std.specs.Prelude.{Ok}
use mathlib.Core.Path.{◌≡◌}
use mathlib.Core.Bool.{Bool, not}
use mathlib.Core.List.{List, [], ◌∷◌, ◌++◌}
use Prim.Native.Nat.{ℕ, ◌+◌, ◌≤◌}
use native.Mathlib.Omega.{arith}
use lib.Dec.{T}
use lib.ListN.{length, take, drop}
use borrow.Author.Tests.{le-ltb}
use Rattle.code.specs.Settings.{accepted}
use Rattle.protocol.specs.declared.Receiver.{Receiver}
use Rattle.protocol.specs.declared.Cause.TheVariants.{OtherMark, OtherSettings, OtherSlot}
use Rattle.protocol.specs.Lengths.{last_slot, message_len, body_len, frame_len, receiver_len, exactly, exactly_framed}
use Rattle.protocol.specs.Frame.{mark, five, slot_bytes, header}
use Rattle.protocol.specs.Causes.{Row, row, agree, header_table, slot_table, slot_cause, loss_cause, frame_cause_of}
use Rattle.protocol.proofs.CauseTables.{none_holds, one_below, both_clear, passes, fails}
use Rattle.protocol.proofs.CauseTables.{slot_open, slot_clear, exact_lengths, lengths_exact, framed_lengths, lengths_framed}
use Rattle.protocol.proofs.HeaderBytes.{tests_header, header_mark, header_five, header_slot}

module _ (x : Receiver) (rows message : List ℕ) where
  -- a loss report meets no cause
  pub record LossOpen : Type 0 where
    pub settings : T (accepted x.settings)
    pub rows_exact : length rows ≡ receiver_len x.settings
    pub message_exact : length message ≡ message_len x.settings
    pub in_time_lem : x.due ≤ last_slot

  abbrev exact : Bool
  exact = exactly x.settings (receiver_len x.settings) (length rows) (length message)

  pub loss_open : loss_cause x rows message ≡ Ok tt → LossOpen
  unfolding loss_cause slot_cause
  loss_open e =
      let free = slot_open x.settings exact x.due e in
      let lengths = exact_lengths x.settings (receiver_len x.settings) (length rows) (length message) free.lengths in
      record { settings = free.settings; rows_exact = lengths.0; message_exact = lengths.1; in_time_lem = free.in_time_lem }

  pub loss_clear : LossOpen → loss_cause x rows message ≡ Ok tt
  unfolding loss_cause slot_cause
  loss_clear h =
      slot_clear x.settings exact x.due
      (record {
        settings = h.settings;
        lengths = lengths_exact x.settings (receiver_len x.settings) (length rows) (length message) h.rows_exact h.message_exact;
        in_time_lem = h.in_time_lem;
      })

  module _ (version : ℕ) (frame : List ℕ) where
    -- a frame report meets no cause
    pub record FrameOpen : Type 0 where
      pub settings : T (accepted x.settings)
      pub rows_exact : length rows ≡ receiver_len x.settings
      pub frame_exact : length frame ≡ frame_len x.settings
      pub message_exact : length message ≡ message_len x.settings
      pub in_time_lem : x.due ≤ last_slot
      pub headed : take 14 frame ≡ header version x.settings x.due

    abbrev framed : Bool
    framed = exactly_framed x.settings (receiver_len x.settings) (length rows) (length message) (length frame)

    -- causes 4, 5 and 6
    abbrev own : List Row
    own = header_table version x.settings frame ++ (row (not (agree 4 (drop 10 frame) (slot_bytes x.due))) OtherSlot ∷ [])

    pub frame_open : frame_cause_of version x rows frame message ≡ Ok tt → FrameOpen
    unfolding frame_cause_of slot_cause frame_len
    frame_open e =
        let parts = both_clear (slot_cause x.settings framed x.due) _ (rw (one_below (slot_table x.settings framed x.due) own) at e) in
        let free = slot_open x.settings framed x.due parts.0 in
        let none = none_holds own parts.1 in
        let lengths = framed_lengths x.settings (receiver_len x.settings) (length rows) (length message) (length frame) free.lengths in
        let long : length frame ≡ 14 + body_len x.settings = lengths.2 in
        record {
          settings = free.settings;
          rows_exact = lengths.0;
          frame_exact = long;
          message_exact = lengths.1;
          in_time_lem = free.in_time_lem;
          headed = tests_header version x.settings x.due frame (omega arith)
              (passes (agree 5 frame (mark version)) (none OtherMark))
              (passes (agree 5 (drop 5 frame) (five x.settings)) (none OtherSettings))
              (passes (agree 4 (drop 10 frame) (slot_bytes x.due)) (none OtherSlot));
        }

    pub frame_clear : FrameOpen → frame_cause_of version x rows frame message ≡ Ok tt
    unfolding frame_cause_of
    frame_clear h =
        rw (
          fails (accepted x.settings) h.settings,
          fails framed
              (lengths_framed x.settings (receiver_len x.settings) (length rows) (length message) (length frame)
              h.rows_exact h.message_exact h.frame_exact),
          le-ltb last_slot x.due h.in_time_lem,
          fails (agree 5 frame (mark version)) (header_mark version x.settings x.due frame h.headed),
          fails (agree 5 (drop 5 frame) (five x.settings)) (header_five version x.settings x.due frame h.headed),
          fails (agree 4 (drop 10 frame) (slot_bytes x.due)) (header_slot version x.settings x.due frame h.headed),
        )
