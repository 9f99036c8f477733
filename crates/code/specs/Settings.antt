-- Document 01, "Settings", and document 02 §5: which are accepted, the delay, and k, n and d.
use Rattle.std.specs.Prelude.{Bool, true, ◌&&◌, List, [], ◌∷◌, ℕ, ◌+◌, ◌-◌, ◌/◌, min, leb}
use Rattle.code.specs.declared.settings.Settings.{Settings}

-- T as every formula uses it: the smaller of T and W - 1 (document 02 §5); the frame, the state and cause 5 keep T as set
unfoldable pub delay_of : Settings → ℕ
delay_of s = min s.delay (s.window - 1)

-- k, the source symbols of a word
unfoldable pub k_of : Settings → ℕ
k_of s = delay_of s - s.scattered + 1

-- the pairs that the source symbols of a word fill, two in each
abbrev pub pair_count : Settings → ℕ
pair_count s = (k_of s + 1) / 2

-- n, the symbols of a word
unfoldable pub n_of : Settings → ℕ
n_of s = k_of s + s.burst

-- d = B - N + 1
unfoldable pub d_of : Settings → ℕ
d_of s = s.burst - s.scattered + 1

-- every test of the list passes
unfoldable pub all : List Bool → Bool
all [] = true
all (b ∷ bs) = b && all bs

-- 1 ≤ N ≤ B ≤ the delay, n ≤ 16, W ≤ 255, 1 ≤ L ≤ 64
unfoldable pub accepted : Settings → Bool
accepted s =
    all
    (leb 1 s.scattered ∷ leb s.scattered s.burst ∷ leb s.burst (delay_of s) ∷ leb (n_of s) 16
    ∷ leb s.window 255 ∷ leb 1 s.lanes ∷ leb s.lanes 64 ∷ [])
