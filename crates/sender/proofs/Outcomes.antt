-- What each way out of an opening and of a send gives back.
use Rattle.std.specs.Prelude.{Ok, Err}
use mathlib.Core.Path.{◌≡◌}
use mathlib.Core.List.{List}
use Prim.Native.Nat.{ℕ}
use lib.ListN.{replicate}
use Rattle.code.specs.declared.settings.Settings.{Settings}
use Rattle.protocol.specs.declared.Sender.{Sender}
use Rattle.protocol.specs.declared.Cause.{Cause}
use Rattle.protocol.specs.Lengths.{sender_len}
use Rattle.protocol.specs.States.{no_sender, opened_sender}
use Rattle.protocol.specs.Causes.{open_cause, send_cause}
use Rattle.protocol.specs.Calls.{OpenedSender, open_sender_of, send_of}
use Rattle.protocol.proofs.Sending.{taken_send, refused_send}

-- ---- the opening

-- what an accepted opening hands back, by its rows and state
abbrev pub opening : List ℕ → Sender → OpenedSender
opening rows x = record { answer = Ok tt; sender = x; rows = rows }

module _ (s : Settings) (rows : List ℕ) where
  pub unopened : (c : Cause) → open_cause s (sender_len s) rows ≡ Err c
      → record { answer = Err c; sender = no_sender; rows = rows } ≡ open_sender_of s rows
  unfolding open_sender_of
  unopened c e = rw (e, open_sender_of)

  pub opened : open_cause s (sender_len s) rows ≡ Ok tt → opening (replicate (sender_len s) 0) (opened_sender s) ≡ open_sender_of s rows
  unfolding open_sender_of
  opened e = rw (e, open_sender_of)

-- ---- a send

module _ (x : Sender) (rows message frame : List ℕ) where
  pub unsent : (c : Cause) → send_cause x rows message frame ≡ Err c → refused_send c x rows frame ≡ send_of x rows message frame
  unfolding send_of
  unsent c e = rw (e, send_of)

  pub sent : send_cause x rows message frame ≡ Ok tt → taken_send x rows message ≡ send_of x rows message frame
  unfolding send_of
  sent e = rw (e, send_of)
