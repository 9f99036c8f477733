-- Whether the sums of all lanes clash with the bytes that arrived.
use Rattle.std.specs.Prelude.{◌≡◌, Bool, not, ◌&&◌, List, ℕ, ◌<◌, eqb, get_or}
use Rattle.galois.specs.Bounded.{any}
use Rattle.gathering.specs.Pairs.{pairs_of}
use Rattle.vectors.specs.Weighted.{weighted_of}
use Rattle.code.specs.declared.settings.Settings.{Settings}
use Rattle.code.specs.Settings.{k_of, n_of}
use Rattle.elimination.specs.Elimination.{known_in}
use Rattle.shares.specs.Shares.{lane_byte}

-- no source has a flag
unfoldable pub ParityOnly : Settings → List ℕ → Type 0
ParityOnly s flags = (q : ℕ) → q < k_of s → get_or flags q 0 ≡ 0

-- in some lane the weighted sum of the vectors at position q is not the byte that arrived
unfoldable pub sum_clash : Settings → List (List ℕ) → List (List ℕ) → List ℕ → List ℕ → ℕ → Bool
sum_clash s rows pairs places bytes q =
    any s.lanes (λ v. not (eqb (get_or (weighted_of rows q pairs (pairs_of (k_of s))) v 0) (lane_byte s places bytes v q)))

-- and that at some known position
unfoldable pub sums_clash : Settings → List (List ℕ) → List (List ℕ) → List ℕ → List ℕ → List ℕ → Bool
sums_clash s rows pairs flags places bytes = any (n_of s) (λ q. known_in s flags q && sum_clash s rows pairs places bytes q)
