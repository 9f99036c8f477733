-- Document 01, "What is remembered", and document 02 §3: what each end keeps beside its rows, made here alone. As an opening makes it, as
-- an accepted call leaves it, and the state of zeros that a refused opening hands back.
use Rattle.std.specs.Prelude.{ℕ, ◌+◌}
use Rattle.code.specs.declared.settings.Settings.{Settings}
use Rattle.protocol.specs.declared.Sender.{Sender}
use Rattle.protocol.specs.declared.Receiver.{Receiver}

-- settings of zeros
abbrev pub no_settings : Settings
no_settings = record { window = 0; delay = 0; burst = 0; scattered = 0; lanes = 0 }

-- ---- the sender

-- the sender with these settings and this slot due
abbrev pub sender_at : Settings → ℕ → Sender
sender_at s due = record { settings = s; due = due }

-- it is opened with slot 0 due
abbrev pub opened_sender : Settings → Sender
opened_sender s = sender_at s 0

-- an accepted send leaves the next slot due
abbrev pub sent_on : Sender → Sender
sent_on x = sender_at x.settings (x.due + 1)

abbrev pub no_sender : Sender
no_sender = sender_at no_settings 0

-- ---- the receiver

-- the receiver with these settings, this opening slot and this slot due
abbrev pub receiver_at : Settings → ℕ → ℕ → Receiver
receiver_at s opening due = record { settings = s; opening = opening; due = due }

-- it is opened with its opening slot due
abbrev pub opened_receiver : Settings → ℕ → Receiver
opened_receiver s slot = receiver_at s slot slot

-- an accepted report leaves the next slot due
abbrev pub reported_on : Receiver → Receiver
reported_on x = receiver_at x.settings x.opening (x.due + 1)

abbrev pub no_receiver : Receiver
no_receiver = receiver_at no_settings 0 0
