-- The bytes of the lanes at the positions of the pivots. The L bytes of symbol p stand from its place on, a byte for each lane.
use Rattle.std.specs.Prelude.{cond, List, ℕ, ◌+◌, ltb, get_or}
use Rattle.gathering.specs.declared.Source.{Source}
use Rattle.code.specs.declared.settings.Settings.{Settings}
use Rattle.code.specs.Settings.{k_of, n_of}

-- the bytes of lane v by position, and 0 outside the word
unfoldable pub lane_byte : Settings → List ℕ → List ℕ → ℕ → ℕ → ℕ
lane_byte s places bytes v p = cond (ltb p (n_of s)) (get_or bytes (get_or places p 0 + v) 0) 0

-- the position of row r's pivot; 16 for a row that is no pivot, and past the k rows
unfoldable pub role_of : Settings → List ℕ → ℕ → ℕ
role_of s roles r = cond (ltb r (k_of s)) (get_or roles r 16) 16

-- the byte of lane v at the position of row r's pivot
abbrev pub row_byte : Settings → List ℕ → List ℕ → List ℕ → ℕ → ℕ → ℕ
row_byte s roles places bytes r v = lane_byte s places bytes v (role_of s roles r)

-- the bytes at position p, and zeros past the word
unfoldable pub source_at : Settings → List ℕ → ℕ → Source
source_at s places p = cond (ltb p (n_of s)) (record { start = get_or places p 0; keep = 255 }) (record { start = get_or places 0 0; keep = 0 })

-- those at the position of row r's pivot
abbrev pub source_of : Settings → List ℕ → List ℕ → ℕ → Source
source_of s roles places r = source_at s places (role_of s roles r)
