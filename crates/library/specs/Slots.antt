-- What the calls that read a slot tell a receiving loop: the slot due is the opening slot at first and one more after each accepted call,
-- and a frame that was refused for its slot is of another one, so that the two numbers say whether it is early or late, and by how much.
use Rattle.std.specs.Prelude.{◌≡◌, List, ℕ, ◌+◌, T}
use Rattle.galois.specs.Byte.{Bytes}
use Rattle.protocol.specs.declared.Cause.TheVariants.{OtherSlot}
use Rattle.protocol.specs.Causes.{number_of}
use Rattle.protocol.specs.TwoLists.{Report}
use Rattle.layout.specs.Numbers.{acceptance}
use Rattle.library.specs.Calls.{open_sender_bytes, open_receiver_bytes, send_bytes, heard_bytes, Reading, slot_due_bytes, frame_slot_bytes}
use Rattle.library.specs.Chains.{report_bytes}

-- this slot was read
abbrev pub Tells : Reading → ℕ → Type 0
Tells r slot = r ≡ record { reply = 0; slot = slot }

-- the states that are read are those that calls leave, with whatever stood in the slot that was lent
pub record SlotsTell : Type 0 where
  -- an opening leaves its slot due: a sender's is slot 0
  pub opened_sender_lem : (settings state rows : List ℕ) (was : ℕ) → (open_sender_bytes settings state rows).reply ≡ 0
      → Tells (slot_due_bytes (open_sender_bytes settings state rows).state was) 0
  pub opened_receiver_lem : (settings : List ℕ) (slot : ℕ) (state rows : List ℕ) (was : ℕ)
      → (open_receiver_bytes settings slot state rows).reply ≡ 0
      → Tells (slot_due_bytes (open_receiver_bytes settings slot state rows).state was) slot
  -- an accepted send and an accepted report move it on by one
  pub sent : (state rows message frame : List ℕ) (was : ℕ) → T (acceptance (send_bytes state rows message frame).reply)
      → Tells (slot_due_bytes (send_bytes state rows message frame).state was) ((slot_due_bytes state was).slot + 1)
  pub reported : (state rows : List ℕ) (call : Report) (was : ℕ) → T (acceptance (report_bytes state rows call).reply)
      → Tells (slot_due_bytes (report_bytes state rows call).state was) ((slot_due_bytes state was).slot + 1)
  -- a frame of bytes that was refused for its slot: both slots are told, and they differ
  pub other_slot : (state rows frame message : List ℕ) (was : ℕ) → Bytes frame
      → (heard_bytes state rows frame message).reply ≡ number_of OtherSlot
      → ((slot_due_bytes state was).reply ≡ 0) × ((frame_slot_bytes frame was).reply ≡ 0)
      × ((frame_slot_bytes frame was).slot ≡ (slot_due_bytes state was).slot → ⊥)
