-- The source symbols of a parity symbol: where source symbol i of every lane stands in the sender's rows.
use Rattle.std.specs.Prelude.{cond, ℕ, ◌+◌, ◌-◌, ◌*◌, ◌%◌, ltb}
use Rattle.gathering.specs.declared.Source.{Source}
use Rattle.code.specs.declared.settings.Settings.{Settings}
use Rattle.code.specs.Settings.{k_of, n_of}
use Rattle.protocol.specs.Lengths.{message_len}

-- source symbol i of every lane, in a row of the ring; zeros past the last one
unfoldable pub source_in : Settings → ℕ → ℕ → Source
source_in s row i =
    cond (ltb i (k_of s)) (record { start = row * message_len s + i * s.lanes; keep = 255 }) (record { start = 0; keep = 0 })

-- the row of source symbol i of position p in slot t
unfoldable pub row_of : Settings → ℕ → ℕ → ℕ → ℕ
row_of s t p i = (t + (n_of s - 1) - p + i) % (n_of s - 1)

-- source symbol i of position p in slot t
abbrev pub source_of : Settings → ℕ → ℕ → ℕ → Source
source_of s t p i = source_in s (row_of s t p i) i
