-- What each way out of a call gives back: where the state gives a cause, that refusal; else what protocol's call leaves.
use Rattle.std.specs.Prelude.{Ok, Err}
use mathlib.Core.Path.{◌≡◌, refl, sym, ap, ◌∙◌}
use mathlib.Core.Bool.{Bool, true, false, cond, not, ◌&&◌}
use mathlib.Core.List.{List, [], ◌∷◌}
use Prim.Native.Nat.{ℕ}
use lib.Dec.{eqb, ltb}
use lib.IntN.{ℤ}
use lib.ListN.{length, drop}
use Rattle.galois.proofs.Cases.{is_true}
use Rattle.code.specs.declared.settings.Settings.{Settings}
use Rattle.code.specs.Settings.{accepted}
use Rattle.protocol.specs.declared.Cause.{Cause}
use Rattle.protocol.specs.declared.Cause.TheVariants.{BadSettings, BadLength, LateOpening}
use Rattle.protocol.specs.Lengths.{last_slot, sender_len, receiver_len}
use Rattle.protocol.specs.Answers.{Answer}
use Rattle.protocol.specs.Causes.{number_of, row, first_of, open_table, send_table, loss_table, frame_table, look_up_table}
use Rattle.protocol.specs.Causes.{open_cause, open_receiver_cause, send_cause, loss_cause, frame_cause, frame_cause_of, look_up_cause}
use Rattle.protocol.specs.Calls.{OpenedSender, OpenedReceiver, Sent, Reported, open_sender_of, send_of, open_receiver_of, moved_on}
use Rattle.protocol.specs.Calls.{heard_of, loss_of}
use Rattle.protocol.specs.Calls.{look_up_of}
use Rattle.protocol.specs.Histories.{is_accepted, accepts}
use Rattle.protocol.proofs.CauseTables.{followed_by, one_below}
use Rattle.protocol.proofs.ReportRows.{moved_accepts}
use Rattle.frames.specs.Fields.{settings_at}
use Rattle.state.specs.State.{sender_end, receiver_end, sender_bytes, receiver_bytes, saved, state_len, sender_in, receiver_in}
use Rattle.state.specs.State.{state_table, state_cause}
use Rattle.protocol.specs.Numbers.{answer_number, reply_number}
use Rattle.library.specs.Causes.{open_bytes_table, open_bytes_cause, open_receiver_bytes_cause, send_bytes_cause, heard_bytes_cause}
use Rattle.library.specs.Causes.{lost_bytes_cause}
use Rattle.library.specs.Causes.{look_up_bytes_cause}
use Rattle.library.specs.Calls.{settings_of, length_for, Opening, open_sender_bytes, open_receiver_bytes, Sending, send_bytes, Reporting}
use Rattle.library.specs.Calls.{reported_bytes, heard_bytes, lost_bytes}
use Rattle.library.specs.Calls.{looked_bytes, look_up_bytes}

-- ---- lengths

-- by the settings that were read, the length that they give, and that length or 0
pub length_for_lem : (size : Settings → ℕ) (settings : List ℕ) {s : Settings} {m r : ℕ} → s ≡ settings_at 0 settings → m ≡ size s
    → r ≡ cond (accepted s) m 0 → r ≡ length_for size settings
unfolding settings_of length_for
length_for_lem size settings {s} read given or-zero =
    or-zero ∙ ap (λ (n : ℕ). cond (accepted s) n 0) given ∙ ap (λ (x : Settings). cond (accepted x) (size x) 0) read

-- ---- causes

-- the cause that the settings or the state give an opening, else that of protocol's opening
pub open_cause_lem : (s : Settings) (size : ℕ) (state rows : List ℕ)
    → open_bytes_cause s size state rows ≡ followed_by (open_cause s state_len state) (open_cause s size rows)
unfolding open_cause open_bytes_cause
open_cause_lem s size state rows = go (accepted s) (eqb (length state) state_len)
  where
    go : (p q : Bool)
        → first_of (row (not p) BadSettings ∷ row (not (q && eqb (length rows) size)) BadLength ∷ [])
        ≡ followed_by (first_of (row (not p) BadSettings ∷ row (not q) BadLength ∷ []))
        (first_of (row (not p) BadSettings ∷ row (not (eqb (length rows) size)) BadLength ∷ []))
    go false q = refl
    go true false = refl
    go true true = refl

-- two answers after a first one
in_turn : (a b c : Answer) → followed_by (followed_by a b) c ≡ followed_by a (followed_by b c)
in_turn (Ok tt) b c = refl
in_turn (Err e) b c = refl

pub open_receiver_cause_lem : (s : Settings) (slot : ℕ) (state rows : List ℕ)
    → open_receiver_bytes_cause s slot state rows ≡ followed_by (open_cause s state_len state) (open_receiver_cause s slot rows)
unfolding open_bytes_cause open_receiver_bytes_cause open_cause open_receiver_cause
open_receiver_cause_lem s slot state rows =
    let late = row (ltb last_slot slot) LateOpening ∷ [] in
    one_below (open_bytes_table s (receiver_len s) state rows) late
    ∙ ap (λ (a : Answer). followed_by a (first_of late)) (open_cause_lem s (receiver_len s) state rows)
    ∙ in_turn (open_cause s state_len state) (open_cause s (receiver_len s) rows) (first_of late)
    ∙ ap (followed_by (open_cause s state_len state)) (sym (one_below (open_table s (receiver_len s) rows) late))

-- the cause that the state gives, else that of protocol's call on what it keeps
module _ (state rows message : List ℕ) where
  pub send_cause_lem : (frame : List ℕ)
      → send_bytes_cause state rows message frame
      ≡ followed_by (state_cause sender_end state) (send_cause (sender_in state) rows message frame)
  unfolding state_cause send_cause send_bytes_cause
  send_cause_lem frame = one_below (state_table sender_end state) (send_table (sender_in state) rows message frame)

  pub heard_cause : (frame : List ℕ)
      → heard_bytes_cause state rows frame message
      ≡ followed_by (state_cause receiver_end state) (frame_cause (receiver_in state) rows frame message)
  unfolding state_cause frame_cause_of heard_bytes_cause
  heard_cause frame = one_below (state_table receiver_end state) (frame_table (receiver_in state) rows frame message)

  pub lost_cause : lost_bytes_cause state rows message
      ≡ followed_by (state_cause receiver_end state) (loss_cause (receiver_in state) rows message)
  unfolding state_cause loss_cause lost_bytes_cause
  lost_cause = one_below (state_table receiver_end state) (loss_table (receiver_in state) rows message)

  pub look_up_cause_lem : (number : ℤ)
      → look_up_bytes_cause state rows number message
      ≡ followed_by (state_cause receiver_end state) (look_up_cause (receiver_in state) rows number message)
  unfolding state_cause look_up_cause look_up_bytes_cause
  look_up_cause_lem number = one_below (state_table receiver_end state) (look_up_table (receiver_in state) rows number message)

-- ---- openings

-- what protocol's opening of a sender leaves of the lent lists
abbrev pub sender_left : List ℕ → OpenedSender → Opening
sender_left state r = record {
  reply = answer_number r.answer;
  state = saved (is_accepted r.answer) (sender_bytes r.sender) state;
  rows = r.rows;
}

-- and of a receiver
abbrev pub receiver_left : List ℕ → OpenedReceiver → Opening
receiver_left state r = record {
  reply = answer_number r.answer;
  state = saved (is_accepted r.answer) (receiver_bytes r.receiver) state;
  rows = r.rows;
}

module _ (settings state rows : List ℕ) where
  abbrev s : Settings
  s = settings_at 0 settings

  pub sender_caused : (c : Cause) → open_cause s state_len state ≡ Err c
      → record { reply = number_of c; state = state; rows = rows } ≡ open_sender_bytes settings state rows
  unfolding settings_of open_sender_bytes
  sender_caused c e = rw (open_cause_lem s (sender_len s) state rows, e, open_sender_bytes)

  pub sender_uncaused : open_cause s state_len state ≡ Ok tt → sender_left state (open_sender_of s rows)
      ≡ open_sender_bytes settings state rows
  unfolding settings_of open_sender_of open_sender_bytes
  sender_uncaused none = go (open_cause s (sender_len s) rows) refl
    where
      go : (f : Answer) → open_cause s (sender_len s) rows ≡ f → sender_left state (open_sender_of s rows)
          ≡ open_sender_bytes settings state rows
      go (Ok tt) e = rw (open_cause_lem s (sender_len s) state rows, none, e, open_sender_bytes, open_sender_of, e, open_sender_of)
      go (Err c) e = rw (open_cause_lem s (sender_len s) state rows, none, e, open_sender_bytes, open_sender_of)

  pub receiver_caused : (slot : ℕ) (c : Cause) → open_cause s state_len state ≡ Err c
      → record { reply = number_of c; state = state; rows = rows } ≡ open_receiver_bytes settings slot state rows
  unfolding settings_of open_receiver_bytes
  receiver_caused slot c e = rw (open_receiver_cause_lem s slot state rows, e, open_receiver_bytes)

  pub receiver_uncaused : (slot : ℕ) → open_cause s state_len state ≡ Ok tt
      → receiver_left state (open_receiver_of s slot rows) ≡ open_receiver_bytes settings slot state rows
  unfolding settings_of open_receiver_of open_receiver_bytes
  receiver_uncaused slot none = go (open_receiver_cause s slot rows) refl
    where
      go : (f : Answer) → open_receiver_cause s slot rows ≡ f
          → receiver_left state (open_receiver_of s slot rows) ≡ open_receiver_bytes settings slot state rows
      go (Ok tt) e = rw (open_receiver_cause_lem s slot state rows, none, e, open_receiver_bytes, open_receiver_of, e, open_receiver_of)
      go (Err c) e = rw (open_receiver_cause_lem s slot state rows, none, e, open_receiver_bytes, open_receiver_of)

-- ---- a send

-- what protocol's send leaves of the lent lists
abbrev pub send_left : List ℕ → Sent → Sending
send_left state r = record {
  reply = answer_number r.answer;
  state = saved (is_accepted r.answer) (sender_bytes r.sender) state;
  rows = r.rows;
  frame = r.frame;
}

module _ (state rows message frame : List ℕ) where
  pub send_caused : (c : Cause) → state_cause sender_end state ≡ Err c
      → record { reply = number_of c; state = state; rows = rows; frame = frame } ≡ send_bytes state rows message frame
  unfolding send_bytes
  send_caused c e = rw (send_cause_lem state rows message frame, e, send_bytes)

  pub send_uncaused : state_cause sender_end state ≡ Ok tt
      → send_left state (send_of (sender_in state) rows message frame) ≡ send_bytes state rows message frame
  unfolding send_of send_bytes
  send_uncaused none = go (send_cause (sender_in state) rows message frame) refl
    where
      go : (f : Answer) → send_cause (sender_in state) rows message frame ≡ f
          → send_left state (send_of (sender_in state) rows message frame) ≡ send_bytes state rows message frame
      go (Ok tt) e = rw (send_cause_lem state rows message frame, none, e, send_bytes, send_of, e, send_of)
      go (Err c) e = rw (send_cause_lem state rows message frame, none, e, send_bytes, send_of)

-- ---- reports

-- what protocol's report leaves of the lent lists
abbrev pub report_left : List ℕ → Reported → Reporting
report_left state r = record {
  reply = reply_number r.reply;
  state = saved (accepts r.reply) (receiver_bytes r.receiver) state;
  rows = r.rows;
  message = r.message;
}

module _ (state rows message : List ℕ) where
  -- an accepted one writes the state
  moved_left : (row : List ℕ) → let r : Reported = moved_on (receiver_in state) row rows in report_left state r ≡ reported_bytes r
  moved_left row =
      let r : Reported = moved_on (receiver_in state) row rows in
      rw (is_true (accepts r.reply) (moved_accepts (receiver_in state) row rows)) refl

  abbrev unreported : Cause → Reporting
  unreported c = record { reply = number_of c; state = state; rows = rows; message = message }

  module _ (frame : List ℕ) where
    pub heard_caused : (c : Cause) → state_cause receiver_end state ≡ Err c → unreported c ≡ heard_bytes state rows frame message
    unfolding heard_bytes
    heard_caused c e = rw (heard_cause state rows message frame, e, heard_bytes)

    pub heard_uncaused : state_cause receiver_end state ≡ Ok tt
        → report_left state (heard_of (receiver_in state) rows frame message) ≡ heard_bytes state rows frame message
    unfolding heard_of heard_bytes
    heard_uncaused none = go (frame_cause (receiver_in state) rows frame message) refl
      where
        go : (f : Answer) → frame_cause (receiver_in state) rows frame message ≡ f
            → report_left state (heard_of (receiver_in state) rows frame message) ≡ heard_bytes state rows frame message
        go (Ok tt) e =
            rw (heard_cause state rows message frame, none, e, heard_bytes, heard_of, e, heard_of) (moved_left (1 ∷ drop 14 frame))
        go (Err c) e = rw (heard_cause state rows message frame, none, e, heard_bytes, heard_of)

  pub lost_caused : (c : Cause) → state_cause receiver_end state ≡ Err c → unreported c ≡ lost_bytes state rows message
  unfolding lost_bytes
  lost_caused c e = rw (lost_cause state rows message, e, lost_bytes)

  pub lost_uncaused : state_cause receiver_end state ≡ Ok tt
      → report_left state (loss_of (receiver_in state) rows message) ≡ lost_bytes state rows message
  unfolding loss_of lost_bytes
  lost_uncaused none = go (loss_cause (receiver_in state) rows message) refl
    where
      go : (f : Answer) → loss_cause (receiver_in state) rows message ≡ f
          → report_left state (loss_of (receiver_in state) rows message) ≡ lost_bytes state rows message
      go (Ok tt) e = rw (lost_cause state rows message, none, e, lost_bytes, loss_of, e, loss_of) (moved_left _)
      go (Err c) e = rw (lost_cause state rows message, none, e, lost_bytes, loss_of)

  module _ (number : ℤ) where
    pub look_up_caused : (c : Cause) → state_cause receiver_end state ≡ Err c
        → record { reply = number_of c; message = message } ≡ look_up_bytes state rows number message
    unfolding look_up_bytes
    look_up_caused c e = rw (look_up_cause_lem state rows message number, e, look_up_bytes)

    pub look_up_uncaused : state_cause receiver_end state ≡ Ok tt
        → looked_bytes (look_up_of (receiver_in state) rows number message) ≡ look_up_bytes state rows number message
    unfolding look_up_of look_up_bytes
    look_up_uncaused none = go (look_up_cause (receiver_in state) rows number message) refl
      where
        go : (f : Answer) → look_up_cause (receiver_in state) rows number message ≡ f
            → looked_bytes (look_up_of (receiver_in state) rows number message) ≡ look_up_bytes state rows number message
        go (Ok tt) e = rw (look_up_cause_lem state rows message number, none, e, look_up_bytes)
        go (Err c) e = rw (look_up_cause_lem state rows message number, none, e, look_up_bytes, look_up_of)
