-- A send: the conditions under which no cause holds, and what comes of it then and otherwise. The opening that comes before.
use Rattle.std.specs.Prelude.{Ok, Err}
use mathlib.Core.Path.{◌≡◌, refl, sym, ap, ◌∙◌}
use mathlib.Core.Bool.{Bool}
use mathlib.Core.Logic.{◌↔◌}
use mathlib.Core.List.{List}
use Prim.Native.Nat.{ℕ, ◌-◌, ◌%◌, ◌≤◌}
use native.Mathlib.Omega.{arith}
use lib.Dec.{T}
use lib.ListN.{length, replicate}
use Rattle.code.specs.declared.settings.Settings.{Settings}
use Rattle.code.specs.Settings.{accepted, n_of}
use Rattle.protocol.specs.declared.Sender.{Sender}
use Rattle.protocol.specs.declared.Cause.{Cause}
use Rattle.protocol.specs.Lengths.{last_slot, message_len, frame_len, sender_len, exactly_framed}
use Rattle.protocol.specs.States.{opened_sender, sent_on}
use Rattle.protocol.specs.Frame.{frame_of}
use Rattle.protocol.specs.Rows.{put_row}
use Rattle.protocol.specs.Answers.{Answer}
use Rattle.protocol.specs.Causes.{slot_cause, send_cause}
use Rattle.protocol.specs.Calls.{Sent, open_sender_of, send_of}
use Rattle.protocol.proofs.CauseTables.{open_clear, slot_open, slot_clear, framed_lengths, lengths_framed}

-- ---- the opening

-- an accepted opening of the sender starts at slot 0 with rows of zeros
pub opened_sender_lem : (s : Settings) (rows : List ℕ) → T (accepted s) → length rows ≡ sender_len s
    → open_sender_of s rows
    ≡ record { answer = Ok tt; sender = opened_sender s; rows = replicate (sender_len s) 0 }
unfolding open_sender_of
opened_sender_lem s rows ok full = rw (open_clear s (sender_len s) rows ok full, open_sender_of)

-- ---- a send

-- no cause holds of a send
pub record Sendable (x : Sender) (rows message frame : List ℕ) : Type 0 where
  pub settled : T (accepted x.settings)
  pub rows_exact : length rows ≡ sender_len x.settings
  pub message_exact : length message ≡ message_len x.settings
  pub frame_exact : length frame ≡ frame_len x.settings
  pub in_time_lem : x.due ≤ last_slot

-- what an accepted send hands back
abbrev pub taken_send : Sender → List ℕ → List ℕ → Sent
taken_send x rows message = record {
  answer = Ok tt;
  sender = sent_on x;
  rows = put_row (message_len x.settings) (x.due % (n_of x.settings - 1)) message rows;
  frame = frame_of 1 x.settings rows message x.due;
}

-- what a refused send hands back: everything as it was
abbrev pub refused_send : Cause → Sender → List ℕ → List ℕ → Sent
refused_send c x rows frame = record { answer = Err c; sender = x; rows = rows; frame = frame }

module _ (x : Sender) (rows message frame : List ℕ) where
  abbrev framed : Bool
  framed = exactly_framed x.settings (sender_len x.settings) (length rows) (length message) (length frame)

  -- the table finds nothing where the conditions hold
  pub send_clear : Sendable x rows message frame → send_cause x rows message frame ≡ Ok tt
  unfolding send_cause slot_cause
  send_clear h =
      slot_clear x.settings framed x.due
      (record {
        settings = h.settled;
        lengths = lengths_framed x.settings (sender_len x.settings) (length rows) (length message) (length frame)
            h.rows_exact h.message_exact h.frame_exact;
        in_time_lem = h.in_time_lem;
      })

  -- and only there
  pub clear_send : send_cause x rows message frame ≡ Ok tt → Sendable x rows message frame
  unfolding send_cause slot_cause
  clear_send e =
      let free = slot_open x.settings framed x.due e in
      let lengths = framed_lengths x.settings (sender_len x.settings) (length rows) (length message) (length frame) free.lengths in
      record {
        settled = free.settings;
        rows_exact = lengths.0;
        message_exact = lengths.1;
        frame_exact = lengths.2;
        in_time_lem = free.in_time_lem;
      }

-- a send is accepted, or refused with a cause
pub data SendCase (x : Sender) (rows message frame : List ℕ) : Type 0 where
  taken : Sendable x rows message frame → send_of x rows message frame ≡ taken_send x rows message
      → SendCase x rows message frame
  refused : (c : Cause) → (Sendable x rows message frame → ⊥) → send_of x rows message frame ≡ refused_send c x rows frame
      → SendCase x rows message frame

-- by what the table finds
found_case : (x : Sender) (rows message frame : List ℕ) (f : Answer) → send_cause x rows message frame ≡ f
    → SendCase x rows message frame
unfolding send_of
found_case x rows message frame (Ok tt) e = taken (clear_send x rows message frame e) (rw (e, send_of))
found_case x rows message frame (Err c) e =
    refused c
    (λ h.
    let other : send_cause x rows message frame ≡ Ok tt = send_clear x rows message frame h in
    let z : ◌≡◌ {A = ℕ} 0 1 = cc in
    omega arith)
    (rw (e, send_of))

-- which of the two a send is
pub send_case : (x : Sender) (rows message frame : List ℕ) → SendCase x rows message frame
send_case x rows message frame = found_case x rows message frame (send_cause x rows message frame) refl

-- an accepted send, by its answer
pub taken_case : (x : Sender) (rows message frame : List ℕ) → (send_of x rows message frame).answer ≡ Ok tt
    → Sendable x rows message frame × (send_of x rows message frame ≡ taken_send x rows message)
taken_case x rows message frame e = go (send_case x rows message frame)
  where
    go : SendCase x rows message frame
        → Sendable x rows message frame × (send_of x rows message frame ≡ taken_send x rows message)
    go (taken h f) = (h, f)
    go (refused c never f) =
        let same : Err c ≡ Ok tt = sym (ap (λ (r : Sent). r.answer) f) ∙ e in
        let z : ◌≡◌ {A = ℕ} 0 1 = cc in
        absurd (omega arith)

-- a send is accepted exactly if no cause holds
pub send_taken : (x : Sender) (rows message frame : List ℕ)
    → ((send_of x rows message frame).answer ≡ Ok tt) ↔ Sendable x rows message frame
send_taken x rows message frame = (λ e. (taken_case x rows message frame e).0, λ h. go h (send_case x rows message frame))
  where
    go : Sendable x rows message frame → SendCase x rows message frame
        → (send_of x rows message frame).answer ≡ Ok tt
    go h (taken _ f) = ap (λ (r : Sent). r.answer) f
    go h (refused c never f) = absurd (never h)
