-- Document 01, "Slots, messages, frames" and "What is remembered": the last slot, the length of each lent buffer, and whether what is
-- lent has it.
use Rattle.std.specs.Prelude.{Bool, ◌&&◌, ℕ, ◌+◌, ◌-◌, ◌*◌, eqb}
use Rattle.code.specs.declared.settings.Settings.{Settings}
use Rattle.code.specs.Settings.{delay_of, k_of, n_of}

-- slots are numbered from 0 to this one
unfoldable pub last_slot : ℕ
last_slot = 3999999999

-- a message is k × L bytes
unfoldable pub message_len : Settings → ℕ
message_len s = k_of s * s.lanes

-- a frame's body is n × L bytes, after 14 of header
unfoldable pub body_len : Settings → ℕ
body_len s = n_of s * s.lanes

unfoldable pub frame_len : Settings → ℕ
frame_len s = 14 + body_len s

-- the sender's rows: n - 1 of k × L bytes
unfoldable pub sender_len : Settings → ℕ
sender_len s = (n_of s - 1) * message_len s

-- the receiver's rows: k + T of 1 + n × L bytes
unfoldable pub row_len : Settings → ℕ
row_len s = 1 + body_len s

unfoldable pub row_count : Settings → ℕ
row_count s = k_of s + delay_of s

unfoldable pub receiver_len : Settings → ℕ
receiver_len s = row_count s * row_len s

-- rows of this size and a message buffer have their lengths
abbrev pub exactly : Settings → ℕ → ℕ → ℕ → Bool
exactly s size rows message = eqb rows size && eqb message (message_len s)

-- and so has a frame
abbrev pub exactly_framed : Settings → ℕ → ℕ → ℕ → ℕ → Bool
exactly_framed s size rows message frame = exactly s size rows message && eqb frame (frame_len s)
