-- A table of pairs as the bytes of one pair of sources after another are put into it.
use mathlib.Core.Path.{◌≡◌, ap, ◌∙◌, subst}
use mathlib.Core.List.{List}
use mathlib.Core.Logic.{⊎_elim}
use Prim.Native.Nat.{ℕ, zero, suc, ◌+◌, ◌*◌, ◌≤◌, ◌<◌}
use native.Mathlib.Nat.{not-suc-le-zero}
use native.Mathlib.Numerals.{add-one}
use native.Mathlib.Omega.{arith}
use lib.ListN.{get_or}
use Rattle.galois.proofs.Cases.{le_or_lt}
use Rattle.gathering.specs.Pairs.{vector_of, Wide, byte_of, paired_up, Paired, gathered_of}
use Rattle.gathering.specs.declared.Source.{Source}
use Rattle.gathering.proofs.PairLaws.{paired_wide, paired_kept, paired_first, paired_second, paired_other}

module _ (bytes : List ℕ) (lanes : ℕ) (source : ℕ → Source) (pairs : List (List ℕ)) where
  -- the table with the first m pairs
  abbrev gathered : ℕ → List (List ℕ)
  gathered m = gathered_of bytes lanes source m pairs

  -- one more pair
  pub gathered_more : (j : ℕ) (before : List (List ℕ)) (first second : Source) → before ≡ gathered j → first ≡ source (j * 2)
      → second ≡ source (j * 2 + 1) → paired_up before j bytes lanes first second ≡ gathered (j + 1)
  unfolding gathered_of
  gathered_more j before first second is-before is-first is-second = rw add-one cc

  module _ (fits : lanes ≤ 64) (wide : Wide pairs) where
    -- the table has as many vectors and lanes
    pub gathered_wide : (m : ℕ) → m ≤ 8 → Wide (gathered m)
    unfolding gathered_of
    gathered_wide zero few = wide
    gathered_wide (suc m) few =
        paired_wide (gathered m) m bytes lanes (source (m * 2)) (source (m * 2 + 1)) (gathered_wide m (omega arith)) few fits

    -- and is a table of pairs again
    pub gathered_paired : (m count : ℕ) → m ≤ 8 → Paired count pairs → Paired count (gathered m)
    unfolding gathered_of
    gathered_paired zero count few paired = paired
    gathered_paired (suc m) count few paired =
        paired_kept (gathered m) m bytes lanes (source (m * 2)) (source (m * 2 + 1)) (gathered_wide m (omega arith)) few fits count
        (gathered_paired m count (omega arith) paired)

    -- vector i holds the bytes of source i
    pub gathered_vector : (m i v : ℕ) → m ≤ 8 → i < m * 2 → v < lanes → get_or (vector_of (gathered m) i) v 0 ≡ byte_of bytes (source i) v
    unfolding gathered_of
    gathered_vector zero i v few below lane = absurd (not-suc-le-zero below)
    gathered_vector (suc m) i v few below lane =
        ⊎_elim (λ later. ⊎_elim at_second (at_first later) (le_or_lt (m * 2 + 1) i))
        (λ less.
        ap (λ (l : List ℕ). get_or l v 0)
        (paired_other (gathered m) m bytes lanes (source (m * 2)) (source (m * 2 + 1)) before few fits i (omega arith)
        (λ same. omega arith))
        ∙ gathered_vector m i v (omega arith) less lane)
        (le_or_lt (m * 2) i)
      where
        before : Wide (gathered m)
        before = gathered_wide m (omega arith)

        Put : ℕ → Type 0
        Put i =
            get_or (vector_of (paired_up (gathered m) m bytes lanes (source (m * 2)) (source (m * 2 + 1))) i) v 0
            ≡ byte_of bytes (source i) v

        at_second : m * 2 + 1 ≤ i → Put i
        at_second above =
            let same : m * 2 + 1 ≡ i = omega arith in
            subst Put same (paired_second (gathered m) m bytes lanes (source (m * 2)) (source (m * 2 + 1)) before few fits v lane)

        at_first : m * 2 ≤ i → i < m * 2 + 1 → Put i
        at_first above less =
            let same : m * 2 ≡ i = omega arith in
            subst Put same (paired_first (gathered m) m bytes lanes (source (m * 2)) (source (m * 2 + 1)) before few fits v lane)
