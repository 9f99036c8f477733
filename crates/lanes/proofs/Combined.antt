-- The combined sums of all lanes, as the weighted sums of the vectors at the pivots' positions.
use mathlib.Core.Path.{◌≡◌, refl, sym, ap, ◌∙◌}
use mathlib.Core.Bool.{Bool, true, false, cond}
use mathlib.Core.List.{List}
use mathlib.Core.Logic.{◌≢◌}
use Prim.Native.Nat.{ℕ, ◌+◌, ◌*◌, ◌-◌, ◌≤◌, ◌<◌}
use native.Mathlib.Omega.{arith}
use borrow.Author.Tests.{eqb-true, ne_eqb, eq-eqb}
use lib.ListN.{get_or}
use Rattle.galois.specs.Byte.{◌⊕◌, ◌⊗◌}
use Rattle.galois.specs.Sum.{sum}
use Rattle.galois.specs.Table.{table}
use Rattle.galois.proofs.ByIndex.{get_or-table, table_equal}
use Rattle.galois.proofs.ByteProduct.{times_comm, times_zero, one_times}
use Rattle.galois.proofs.Sums.{sum-equal, sum_zeros, sum-split, sum_single}
use Rattle.galois.proofs.Xor.{plus_zero}
use Rattle.gathering.specs.Pairs.{pairs_of, vector_of}
use Rattle.vectors.specs.Weighted.{weighted_of}
use Rattle.code.specs.declared.settings.Settings.{Settings}
use Rattle.code.specs.Settings.{k_of, n_of}
use Rattle.code.proofs.Shape.{Shape}
use Rattle.elimination.specs.declared.reduced.Reduced.{Reduced}
use Rattle.elimination.specs.Elimination.{free, cell, combined}
use Rattle.shares.specs.Shares.{lane_byte, row_byte}
use Rattle.shares.proofs.Shares.{lane_outside, lane_below, role_row, past_zero, Shared}
use Rattle.lanes.specs.Lanes.{share, Own, combined_lanes}

module _ (s : Settings) (x : Reduced) (places bytes : List ℕ) where
  -- a row that is 0 at q has no share
  pub share_zero : (q r v : ℕ) → cell x.rows r q ≡ 0 → share s x places bytes q r v ≡ 0
  share_zero q r v e = go (free x.roles r)
    where
      byte : ℕ
      byte = lane_byte s places bytes v (get_or x.roles r 16)

      go : (t : Bool) → cond t 0 (byte ⊗ cell x.rows r q) ≡ 0
      go true = refl
      go false = ap (λ (b : ℕ). byte ⊗ b) e ∙ times_zero byte

  -- a row at q by the byte at its pivot's position is its share
  pub share_term : (q r v : ℕ) → n_of s ≤ 16 → r < k_of s
      → cell x.rows r q ⊗ row_byte s x.roles places bytes r v ≡ share s x places bytes q r v
  unfolding free
  share_term q r v few h =
      ap (λ (p : ℕ). cell x.rows r q ⊗ lane_byte s places bytes v p) (sym (role_row s x.roles r h)) ∙ go (free x.roles r) refl
    where
      here : ℕ
      here = cell x.rows r q

      byte : ℕ
      byte = lane_byte s places bytes v (get_or x.roles r 16)

      none : free x.roles r ≡ true → byte ≡ 0
      none e =
          let role : get_or x.roles r 16 ≡ 16 = eqb-true (get_or x.roles r 16) 16 e in
          lane_outside s places bytes v (get_or x.roles r 16) (omega arith)

      go : (t : Bool) → free x.roles r ≡ t → here ⊗ byte ≡ cond t 0 (byte ⊗ here)
      go true e = ap (λ (b : ℕ). here ⊗ b) (none e) ∙ times_zero here
      go false e = times_comm here byte

  -- the weighted sum of the vectors is the combined sum
  pub weighted_combined : (pairs : List (List ℕ)) → Shape s → Shared s x.roles places bytes pairs → (q v : ℕ) → v < s.lanes
      → get_or (weighted_of x.rows q pairs (pairs_of (k_of s))) v 0 ≡ combined s x (lane_byte s places bytes v) q
  unfolding weighted_of combined cell
  weighted_combined pairs h shared q v lane =
      let f : ℕ → ℕ = λ r. cell x.rows r q ⊗ row_byte s x.roles places bytes r v in
      let rest : ℕ = pairs_of (k_of s) * 2 - k_of s in
      let whole : pairs_of (k_of s) * 2 ≡ k_of s + rest = omega arith in
      get_or-table 64 (λ v. sum (pairs_of (k_of s) * 2) (λ r. cell x.rows r q ⊗ get_or (vector_of pairs r) v 0)) v 0 (omega arith)
      ∙ sum-equal (pairs_of (k_of s) * 2) (λ r. cell x.rows r q ⊗ get_or (vector_of pairs r) v 0) f
      (λ r below. ap (λ (b : ℕ). cell x.rows r q ⊗ b) (shared r v below lane))
      ∙ ap (λ (m : ℕ). sum m f) whole
      ∙ sum-split (k_of s) rest f
      ∙ ap (λ (z : ℕ). sum (k_of s) f ⊕ z)
      (sum_zeros rest (λ i. f (k_of s + i))
      (λ i below.
      ap (λ (b : ℕ). cell x.rows (k_of s + i) q ⊗ b) (past_zero s x.roles (k_of s + i) places bytes v h.symbols_few (omega arith))
      ∙ times_zero (cell x.rows (k_of s + i) q)))
      ∙ plus_zero (sum (k_of s) f)
      ∙ sum-equal (k_of s) f (λ r. share s x places bytes q r v) (λ r below. share_term q r v h.symbols_few below)

  -- so in all lanes
  pub sums_combined : (pairs : List (List ℕ)) → Shape s → Shared s x.roles places bytes pairs → (q : ℕ)
      → table s.lanes (λ v. get_or (weighted_of x.rows q pairs (pairs_of (k_of s))) v 0) ≡ combined_lanes s x places bytes q
  unfolding combined_lanes
  sums_combined pairs h shared q =
      table_equal s.lanes (λ v. get_or (weighted_of x.rows q pairs (pairs_of (k_of s))) v 0)
      (λ v. combined s x (lane_byte s places bytes v) q) (weighted_combined pairs h shared q)

  module _ (i : ℕ) (own : Own s x i) (role : get_or x.roles i 16 ≡ i) (h : Shape s) (below : i < k_of s) where
    -- row i is a pivot
    taken : free x.roles i ≡ false
    unfolding free
    taken = ne_eqb (get_or x.roles i 16) 16 (λ e. omega arith)

    -- in a unit column
    pub own_elsewhere : (r : ℕ) → r < k_of s → r ≢ i → cell x.rows r i ≡ 0
    own_elsewhere r few ne = own role r few ∙ ap (λ (t : Bool). cond t 1 0) (ne_eqb r i ne)

    own_here : cell x.rows i i ≡ 1
    own_here = own role i below ∙ ap (λ (t : Bool). cond t 1 0) (eq-eqb i i refl)

    -- the combined sum there is the byte itself
    pub own_combined : ((j : ℕ) → get_or bytes j 0 < 256) → (v : ℕ)
        → lane_byte s places bytes v i ≡ combined s x (lane_byte s places bytes v) i
    unfolding combined
    own_combined small v =
        let byte : ℕ = lane_byte s places bytes v i in
        sym
        (sum_single (k_of s) i (λ r. share s x places bytes i r v) below (λ r few ne. share_zero i r v (own_elsewhere r few ne))
        ∙ ap (λ (t : Bool). cond t 0 (lane_byte s places bytes v (get_or x.roles i 16) ⊗ cell x.rows i i)) taken
        ∙ ap (λ (p : ℕ). lane_byte s places bytes v p ⊗ cell x.rows i i) role
        ∙ ap (λ (b : ℕ). byte ⊗ b) own_here
        ∙ times_comm byte 1
        ∙ one_times byte (lane_below s places bytes v i small (omega arith)))

    pub own_lanes : ((j : ℕ) → get_or bytes j 0 < 256)
        → table s.lanes (λ v. lane_byte s places bytes v i) ≡ combined_lanes s x places bytes i
    unfolding combined_lanes
    own_lanes small =
        table_equal s.lanes (λ v. lane_byte s places bytes v i) (λ v. combined s x (lane_byte s places bytes v) i)
        (λ v lane. own_combined small v)
