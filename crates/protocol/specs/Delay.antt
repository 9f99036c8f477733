-- Document 02 §5, as one statement: the smaller of T and W - 1 stands for T in every formula, nothing changes for settings that document
-- 01 accepted, and a frame keeps T as set.
use Rattle.std.specs.Prelude.{◌≡◌, ◌↔◌, Bool, cond, ◌&&◌, List, [], ◌∷◌, ◌++◌, ℕ, ◌+◌, ◌-◌, ◌*◌, ◌≤◌, T, ltb, leb, Err}
use Rattle.galois.specs.Byte.{widen}
use Rattle.code.specs.declared.settings.Settings.{Settings}
use Rattle.code.specs.Settings.{accepted, all, delay_of, k_of, n_of, d_of}
use Rattle.code.specs.Matrix.{product, alpha_entry, entry}
use Rattle.protocol.specs.declared.Cause.TheVariants.{OtherSettings}
use Rattle.protocol.specs.Lengths.{message_len, frame_len, sender_len, receiver_len}
use Rattle.protocol.specs.Frame.{header}
use Rattle.protocol.specs.Causes.{header_cause}

-- document 01's rule, by T as set: 1 ≤ N ≤ B ≤ T, T - N + 1 + B ≤ 16, T + 1 ≤ W ≤ 255, 1 ≤ L ≤ 64
unfoldable pub accepted_before : Settings → Bool
accepted_before s =
    all
    (leb 1 s.scattered ∷ leb s.scattered s.burst ∷ leb s.burst s.delay ∷ leb (s.delay - s.scattered + 1 + s.burst) 16
    ∷ leb (s.delay + 1) s.window ∷ leb s.window 255 ∷ leb 1 s.lanes ∷ leb s.lanes 64 ∷ [])

-- its k and n, with this number for T
abbrev pub k_by : ℕ → Settings → ℕ
k_by delay s = delay - s.scattered + 1

abbrev pub n_by : ℕ → Settings → ℕ
n_by delay s = k_by delay s + s.burst

-- its entry of G, with this number for T
unfoldable pub entry_by : ℕ → Settings → ℕ → ℕ → ℕ
entry_by delay s i j =
    cond (ltb i (k_by delay s) && ltb j (n_by delay s))
    (cond (ltb i (d_of s) && leb delay j) (alpha_entry delay i j) (widen (product s.scattered i j (delay - s.scattered))))
    0

-- settings that work with this number for T: the delay, k, n, d, G and every length are document 01's for it
pub record WorkWith (delay : ℕ) (s : Settings) : Type 0 where
  pub effective : delay_of s ≡ delay
  pub sources : k_of s ≡ k_by delay s
  pub symbols : n_of s ≡ n_by delay s
  pub alpha_rows : d_of s ≡ s.burst - s.scattered + 1
  pub entries : (i j : ℕ) → entry s i j ≡ entry_by delay s i j
  pub message_length : message_len s ≡ k_by delay s * s.lanes
  pub frame_length : frame_len s ≡ 14 + n_by delay s * s.lanes
  pub sender_length : sender_len s ≡ (n_by delay s - 1) * (k_by delay s * s.lanes)
  pub receiver_length : receiver_len s ≡ (k_by delay s + delay) * (1 + n_by delay s * s.lanes)

-- the settings with the smaller number set as T
abbrev pub at_delay : Settings → Settings
at_delay s = record { window = s.window; delay = delay_of s; burst = s.burst; scattered = s.scattered; lanes = s.lanes }

-- what holds of T as set, and of the number that stands for it
pub record Delays : Type 0 where
  -- settings that document 01 accepted are accepted, and work with T as set, as before
  pub as_before : (s : Settings) → T (accepted_before s) → T (accepted s) × WorkWith s.delay s
  -- settings whose window is at or below T work with W - 1
  pub short_window : (s : Settings) → s.window ≤ s.delay → WorkWith (s.window - 1) s
  -- accepted are those that document 01 accepts with the smaller number set as T
  pub rule : (s : Settings) → T (accepted s) ↔ T (accepted_before (at_delay s))
  -- the header keeps T as set: a frame of settings with another T meets 5
  pub other_delay : (version : ℕ) (s other : Settings) (t : ℕ) (body : List ℕ) → (s.delay ≡ other.delay → ⊥)
      → header_cause version s (header version other t ++ body) ≡ Err OtherSettings
