-- What is read back from a state that was written, and what the causes of a state say.
use Rattle.std.specs.Prelude.{Ok}
use mathlib.Core.Path.{◌≡◌, refl}
use mathlib.Core.Bool.{true}
use mathlib.Core.List.{List}
use native.Mathlib.Omega.{arith}
use Prim.Native.Nat.{ℕ, ◌+◌, ◌≤◌}
use lib.Dec.{eqb, eqb→eq}
use lib.ListN.{length}
use borrow.Author.Tests.{eq-eqb}
use Rattle.std.proofs.lemmas.Nat.{from_be_bytes-to_be_bytes_4}
use Rattle.galois.specs.Bounded.{every}
use Rattle.code.specs.declared.settings.Settings.{Settings}
use Rattle.protocol.specs.declared.Sender.{Sender}
use Rattle.protocol.specs.declared.Receiver.{Receiver}
use Rattle.protocol.specs.declared.Cause.TheVariants.{BadLength}
use Rattle.protocol.specs.Lengths.{last_slot}
use Rattle.protocol.specs.Frame.{five, slot_bytes}
use Rattle.protocol.specs.Causes.{agree}
use Rattle.protocol.proofs.CauseTables.{none_holds, passes}
use Rattle.frames.specs.Fields.{settings_at, slot_at}
use Rattle.state.specs.State.{sender_end, receiver_end, mark_of, state_bytes, sender_bytes, receiver_bytes, state_len}
use Rattle.state.specs.State.{sender_in, receiver_in, state_table, state_cause}
use Rattle.state.proofs.StateBytes.{length-state}

-- ---- reading back what was written

module _ (end : ℕ) (s : Settings) (due opening : ℕ) where
  pub settings_read : settings_at 4 (state_bytes end s due opening) ≡ s
  unfolding settings_at five slot_bytes state_bytes
  settings_read = refl

  pub due_read : due ≤ last_slot + 1 → slot_at 9 (state_bytes end s due opening) ≡ due
  unfolding slot_at five slot_bytes state_bytes last_slot
  due_read few = omega (arith, from_be_bytes-to_be_bytes_4 due (omega arith))

  pub opening_read : opening ≤ last_slot → slot_at 13 (state_bytes end s due opening) ≡ opening
  unfolding slot_at five slot_bytes state_bytes last_slot
  opening_read few = omega (arith, from_be_bytes-to_be_bytes_4 opening (omega arith))

  marked : agree 4 (state_bytes end s due opening) (mark_of end) ≡ true
  unfolding agree every five slot_bytes state_bytes
  marked = rw (eq-eqb end end refl) refl

  -- so a state that was written gives no cause
  pub state_uncaused : state_cause end (state_bytes end s due opening) ≡ Ok tt
  unfolding state_cause
  state_uncaused = rw (eq-eqb _ _ (length-state end s due opening), marked)

-- and keeps the sender
pub sender_in_state : (x : Sender) → x.due ≤ last_slot + 1 → sender_in (sender_bytes x) ≡ x
unfolding sender_in
sender_in_state x few = let s = x.settings in rw (settings_read sender_end s x.due 0, due_read sender_end s x.due 0 few) refl

-- or the receiver that it was written from
pub receiver_in_state : (x : Receiver) → x.opening ≤ last_slot → x.due ≤ last_slot + 1 → receiver_in (receiver_bytes x) ≡ x
unfolding receiver_in
receiver_in_state x begun few =
    let s = x.settings in
    let due : ℕ = x.due in
    let opening : ℕ = x.opening in
    rw (
      settings_read receiver_end s due opening,
      opening_read receiver_end s due opening begun,
      due_read receiver_end s due opening few,
    ) refl

-- ---- the causes that a state gives

-- a state that gives none has its length
pub uncaused_length : (end : ℕ) (state : List ℕ) → state_cause end state ≡ Ok tt → length state ≡ state_len
unfolding state_cause
uncaused_length end state none =
    eqb→eq (length state) state_len (passes (eqb (length state) state_len) (none_holds (state_table end state) none BadLength))
