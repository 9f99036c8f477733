-- The table into which the vectors of all rows were put: it is paired, and its weighted sums are the combined sums of all lanes.
use mathlib.Core.Path.{◌≡◌, subst⁻¹}
use mathlib.Core.List.{List}
use Prim.Native.Nat.{ℕ, ◌<◌}
use lib.ListN.{get_or}
use Rattle.galois.specs.Table.{table}
use Rattle.gathering.specs.Pairs.{pairs_of, Paired, gathered_of}
use Rattle.gathering.proofs.PairLaws.{blank_pairs}
use Rattle.vectors.specs.Weighted.{weighted_of}
use Rattle.code.specs.declared.settings.Settings.{Settings}
use Rattle.code.specs.Settings.{k_of}
use Rattle.code.proofs.Shape.{Shape}
use Rattle.elimination.specs.declared.reduced.Reduced.{Reduced}
use Rattle.shares.specs.Shares.{source_of}
use Rattle.shares.proofs.Shares.{Shared, all-paired, all-shared}
use Rattle.clashes.specs.Clashes.{sums_clash}
use Rattle.lanes.specs.Lanes.{combined_lanes, lanes_clash}
use Rattle.lanes.proofs.Clashes.{clash_sums}
use Rattle.lanes.proofs.Combined.{sums_combined}

module _ (s : Settings) (h : Shape s) (x : Reduced) (places bytes : List ℕ) (pairs : List (List ℕ))
    (put : pairs ≡ gathered_of bytes s.lanes (source_of s x.roles places) (pairs_of (k_of s)) blank_pairs) where
  pub put_paired : Paired (pairs_of (k_of s)) pairs
  put_paired = subst⁻¹ (Paired (pairs_of (k_of s))) put (all-paired s x.roles places bytes h)

  module _ (small : (q : ℕ) → get_or bytes q 0 < 256) where
    shared : Shared s x.roles places bytes pairs
    shared = subst⁻¹ (Shared s x.roles places bytes) put (all-shared s x.roles places bytes h small)

    pub put_clash : (flags : List ℕ) → sums_clash s x.rows pairs flags places bytes ≡ lanes_clash s x flags places bytes
    put_clash flags = clash_sums s x flags places bytes pairs h shared

    pub put_sum : (i : ℕ)
        → table s.lanes (λ v. get_or (weighted_of x.rows i pairs (pairs_of (k_of s))) v 0) ≡ combined_lanes s x places bytes i
    put_sum i = sums_combined s x places bytes pairs h shared i
