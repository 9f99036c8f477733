-- The bytes of the lanes at a position, and the vectors that are gathered of those at the pivots' positions.
use mathlib.Core.Path.{◌≡◌, refl, sym, ap, ◌∙◌, subst}
use mathlib.Core.List.{List}
use mathlib.Core.Logic.{⊎_elim}
use Prim.Native.Nat.{ℕ, ◌+◌, ◌*◌, ◌-◌, ◌≤◌, ◌<◌}
use native.Mathlib.Omega.{arith}
use borrow.Author.Tests.{lt-ltb, le-ltb}
use lib.ListN.{length, get_or, take, drop, length-take, length-drop}
use lib.Seq.{get_or-take, get_or-drop}
use Rattle.galois.specs.Table.{table}
use Rattle.galois.proofs.ByIndex.{is_table}
use Rattle.galois.proofs.Cases.{le_or_lt}
use Rattle.gathering.specs.Pairs.{pairs_of, vector_of, byte_of, Paired, gathered_of}
use Rattle.gathering.specs.declared.Source.{Source}
use Rattle.gathering.proofs.PairLaws.{blank_pairs, blank_wide, blank_paired, byte_kept, byte_none}
use Rattle.gathering.proofs.Gathered.{gathered_paired, gathered_vector}
use Rattle.code.specs.declared.settings.Settings.{Settings}
use Rattle.code.specs.Settings.{k_of, n_of}
use Rattle.code.proofs.Shape.{Shape}
use Rattle.shares.specs.Shares.{lane_byte, role_of, row_byte, source_at, source_of}

-- the bytes of a lane are those from the places on, and 0 outside the word
module _ (s : Settings) (places bytes : List ℕ) (v p : ℕ) where
  pub lane_inside : p < n_of s → get_or bytes (get_or places p 0 + v) 0 ≡ lane_byte s places bytes v p
  unfolding lane_byte
  lane_inside h = rw (lt-ltb p (n_of s) h)

  pub lane_outside : n_of s ≤ p → lane_byte s places bytes v p ≡ 0
  unfolding lane_byte
  lane_outside h = rw (le-ltb p (n_of s) h)

  pub lane_below : ((j : ℕ) → get_or bytes j 0 < 256) → p < n_of s → lane_byte s places bytes v p < 256
  lane_below below h = subst (λ (b : ℕ). b < 256) (lane_inside h) (below (get_or places p 0 + v))

module _ (s : Settings) (places bytes : List ℕ) (p : ℕ) where
  -- byte v of the L bytes of symbol p is that of lane v
  pub part_byte : p < n_of s → (v : ℕ) → v < s.lanes
      → get_or (take (get_or places p 0 + s.lanes - get_or places p 0) (drop (get_or places p 0) bytes)) v 0 ≡ lane_byte s places bytes v p
  part_byte below v h =
      let start : ℕ = get_or places p 0 in
      get_or-take (start + s.lanes - start) (drop start bytes) v 0 (omega arith) ∙ get_or-drop start bytes v 0
      ∙ lane_inside s places bytes v p below

  -- they are those of all lanes
  pub part_table : p < n_of s → get_or places p 0 + s.lanes ≤ length bytes
      → take (get_or places p 0 + s.lanes - get_or places p 0) (drop (get_or places p 0) bytes)
      ≡ table s.lanes (λ v. lane_byte s places bytes v p)
  part_table below inside =
      let start : ℕ = get_or places p 0 in
      is_table s.lanes (λ v. lane_byte s places bytes v p) 0 (take (start + s.lanes - start) (drop start bytes))
      (omega (arith, length-take (start + s.lanes - start) (drop start bytes), length-drop start bytes)) (part_byte below)

-- the role of a row below k, and past the k rows
module _ (s : Settings) (roles : List ℕ) (r : ℕ) where
  pub role_row : r < k_of s → get_or roles r 16 ≡ role_of s roles r
  unfolding role_of
  role_row h = rw (lt-ltb r (k_of s) h)

  pub role_past : k_of s ≤ r → 16 ≡ role_of s roles r
  unfolding role_of
  role_past h = rw (le-ltb r (k_of s) h)

  -- past the k rows all bytes are 0
  pub past_zero : (places bytes : List ℕ) (v : ℕ) → n_of s ≤ 16 → k_of s ≤ r → row_byte s roles places bytes r v ≡ 0
  past_zero places bytes v few h =
      ap (lane_byte s places bytes v) (sym (role_past h)) ∙ lane_outside s places bytes v 16 few

-- the source of a position of the word, and of one past it
module _ (s : Settings) (places : List ℕ) (p : ℕ) where
  abbrev arrived : Source
  arrived = record { start = get_or places p 0; keep = 255 }

  abbrev zeros : Source
  zeros = record { start = get_or places 0 0; keep = 0 }

  pub source_inside : p < n_of s → arrived ≡ source_at s places p
  unfolding source_at
  source_inside h = rw (lt-ltb p (n_of s) h)

  pub source_past : n_of s ≤ p → zeros ≡ source_at s places p
  unfolding source_at
  source_past h = rw (le-ltb p (n_of s) h)

  -- what holds of both holds of the source
  source_each : (P : Source → Type 0) → (p < n_of s → P arrived) → (n_of s ≤ p → P zeros) → P (source_at s places p)
  source_each P inside past =
      ⊎_elim (λ h. subst P (source_past h) (past h)) (λ h. subst P (source_inside h) (inside h)) (le_or_lt (n_of s) p)

  -- it lies within the bytes
  pub source_held : (bytes : List ℕ) → Shape s → ((p : ℕ) → p < n_of s → get_or places p 0 + s.lanes ≤ length bytes)
      → (source_at s places p).start + s.lanes ≤ length bytes
  source_held bytes h inside =
      source_each (λ x. x.start + s.lanes ≤ length bytes) (inside p) (λ _. inside 0 (omega arith))

  -- and has the bytes of the lanes
  source_byte : (bytes : List ℕ) → ((q : ℕ) → get_or bytes q 0 < 256) → (v : ℕ)
      → byte_of bytes (source_at s places p) v ≡ lane_byte s places bytes v p
  source_byte bytes small v =
      source_each (λ x. byte_of bytes x v ≡ lane_byte s places bytes v p)
      (λ h. byte_kept bytes arrived v (small (get_or places p 0 + v)) refl ∙ lane_inside s places bytes v p h)
      (λ h. byte_none bytes zeros v refl ∙ sym (lane_outside s places bytes v p h))

-- ---- the vectors of all rows, over zeros

-- the vectors of a table of pairs are the bytes at the pivots' positions
abbrev pub Shared : Settings → List ℕ → List ℕ → List ℕ → List (List ℕ) → Type 0
Shared s roles places bytes pairs =
    (r v : ℕ) → r < pairs_of (k_of s) * 2 → v < s.lanes → get_or (vector_of pairs r) v 0 ≡ row_byte s roles places bytes r v

module _ (s : Settings) (roles places bytes : List ℕ) (h : Shape s) where
  -- there are at most 8 pairs
  pub pairs_few : pairs_of (k_of s) ≤ 8
  pairs_few = omega arith

  abbrev all : List (List ℕ)
  all = gathered_of bytes s.lanes (source_of s roles places) (pairs_of (k_of s)) blank_pairs

  pub all-paired : Paired (pairs_of (k_of s)) all
  all-paired =
      gathered_paired bytes s.lanes (source_of s roles places) blank_pairs h.lanes_few blank_wide (pairs_of (k_of s)) (pairs_of (k_of s))
      pairs_few (blank_paired (pairs_of (k_of s)) pairs_few)

  pub all-shared : ((q : ℕ) → get_or bytes q 0 < 256) → Shared s roles places bytes all
  all-shared small r v below lane =
      gathered_vector bytes s.lanes (source_of s roles places) blank_pairs h.lanes_few blank_wide (pairs_of (k_of s)) r v pairs_few below
      lane
      ∙ source_byte s places (role_of s roles r) bytes small v
