-- Document 01, "Slots, messages, frames": the codewords that the messages make.
use Rattle.std.specs.Prelude.{true, false, List, ℕ, ◌+◌, ◌-◌, ◌*◌, leb, get_or}
use Rattle.code.specs.declared.settings.Settings.{Settings}

-- the first k symbols of the codeword of lane v that starts at slot t - i: symbol r is that of message t - i + r, and 0 before slot 0
unfoldable pub source : Settings → (ℕ → List ℕ) → ℕ → ℕ → ℕ → ℕ → ℕ
source s messages t i v r =
    elim (leb i (t + r)) [ true ↦ get_or (messages (t + r - i)) (r * s.lanes + v) 0 | false ↦ 0 ]
