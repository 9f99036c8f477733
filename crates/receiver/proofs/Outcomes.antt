-- What each way out of an opening gives back.
use Rattle.std.specs.Prelude.{Ok, Err}
use mathlib.Core.Path.{◌≡◌}
use mathlib.Core.List.{List}
use Prim.Native.Nat.{ℕ}
use Rattle.code.specs.declared.settings.Settings.{Settings}
use Rattle.protocol.specs.declared.Receiver.{Receiver}
use Rattle.protocol.specs.declared.Cause.{Cause}
use Rattle.protocol.specs.States.{no_receiver, opened_receiver}
use Rattle.protocol.specs.Causes.{open_receiver_cause}
use Rattle.protocol.specs.Calls.{opened_rows, OpenedReceiver, open_receiver_of}

-- what an accepted opening hands back, by its rows and state
abbrev pub opening : List ℕ → Receiver → OpenedReceiver
opening rows x = record { answer = Ok tt; receiver = x; rows = rows }

module _ (s : Settings) (slot : ℕ) (rows : List ℕ) where
  pub unopened : (c : Cause) → open_receiver_cause s slot rows ≡ Err c
      → record { answer = Err c; receiver = no_receiver; rows = rows } ≡ open_receiver_of s slot rows
  unfolding open_receiver_of
  unopened c e = rw (e, open_receiver_of)

  pub opened : open_receiver_cause s slot rows ≡ Ok tt
      → opening (opened_rows s slot) (opened_receiver s slot) ≡ open_receiver_of s slot rows
  unfolding open_receiver_of
  opened e = rw (e, open_receiver_of)
