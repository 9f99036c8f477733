-- Document 01, "Slots, messages, frames": the frame that the sender hands out.
use Rattle.std.specs.Prelude.{true, false, List, [], ◌∷◌, ◌++◌, ℕ, ◌+◌, ◌-◌, ◌*◌, ◌/◌, ◌%◌, ltb, get_or}
use Rattle.code.specs.declared.settings.Settings.{Settings}
use Rattle.code.specs.Settings.{k_of, n_of}
use Rattle.galois.specs.Table.{table}
use Rattle.code.specs.Word.{symbol}
use Rattle.protocol.specs.Lengths.{message_len, body_len}

-- the mark 54 4F 42 hex, then the version in 16 bits, high byte first
unfoldable pub mark : ℕ → List ℕ
mark version = 0x54 ∷ 0x4f ∷ 0x42 ∷ version / 256 % 256 ∷ version % 256 ∷ []

-- W, T, B, N, L
unfoldable pub five : Settings → List ℕ
five s = s.window ∷ s.delay ∷ s.burst ∷ s.scattered ∷ s.lanes ∷ []

-- the slot in 32 bits, high byte first
unfoldable pub slot_bytes : ℕ → List ℕ
slot_bytes t = t / 16777216 % 256 ∷ t / 65536 % 256 ∷ t / 256 % 256 ∷ t % 256 ∷ []

unfoldable pub header : ℕ → Settings → ℕ → List ℕ
header version s t = mark version ++ five s ++ slot_bytes t

-- symbol i of lane v of message t - a, as the sender's rows hold it, for a from 1 to n - 1; slots before 0 included
unfoldable pub remembered : Settings → List ℕ → ℕ → ℕ → ℕ → ℕ → ℕ
remembered s rows t a i v =
    get_or rows ((t + (n_of s - 1) - a) % (n_of s - 1) * message_len s + (i * s.lanes + v)) 0

-- symbol p of lane v in slot t: it is of the codeword that starts at slot t - p
unfoldable pub sent_symbol : Settings → List ℕ → List ℕ → ℕ → ℕ → ℕ → ℕ
sent_symbol s rows message t p v =
    elim (ltb p (k_of s)) [
      | true ↦ get_or message (p * s.lanes + v) 0
      | false ↦ symbol s (λ i. remembered s rows t (p - i) i v) p
    ]

-- symbol p of lane v stands at body byte p × L + v
unfoldable pub body_of : Settings → List ℕ → List ℕ → ℕ → List ℕ
body_of s rows message t = table (body_len s) (λ q. sent_symbol s rows message t (q / s.lanes) (q % s.lanes))

-- the frame of slot t, worked out from message t and the earlier messages as the rows hold them
unfoldable pub frame_of : ℕ → Settings → List ℕ → List ℕ → ℕ → List ℕ
frame_of version s rows message t = header version s t ++ body_of s rows message t
