-- The answer of elimination for all lanes is what is told of a symbol.
use mathlib.Core.Path.{◌≡◌, refl, sym, ap, ap₂, ◌∙◌, subst, subst⁻¹}
use mathlib.Core.Bool.{Bool, true, false}
use mathlib.Core.Logic.{◌≢◌}
use mathlib.Core.List.{List}
use Prim.Native.Nat.{ℕ, ◌<◌}
use lib.Dec.{T}
use lib.ListN.{get_or}
use Rattle.galois.specs.Bounded.{any}
use Rattle.galois.proofs.ByIndex.{get_or-table}
use Rattle.galois.proofs.Cases.{is_false, some_any, any-one, any_none, any_same}
use Rattle.code.specs.declared.settings.Settings.{Settings}
use Rattle.elimination.specs.declared.grade.Grade.{Grade}
use Rattle.elimination.specs.declared.grade.Grade.TheVariants.{Whole, Lost, Clash}
use Rattle.elimination.specs.declared.lane.Symbol.TheVariants as symbol
use Rattle.elimination.specs.declared.reduced.Reduced.{Reduced}
use Rattle.elimination.specs.Elimination.{combined, clashes, differs, symbol_of, known_in}
use Rattle.elimination.proofs.Answers.{symbol_clash, symbol_lost, symbol_whole}
use Rattle.shares.specs.Shares.{lane_byte}
use Rattle.lanes.specs.Lanes.{Answer, combined_lanes, lanes_clash, lanes_said}
use Rattle.lanes.proofs.Said.{answers, said_clash, said_lost, said_whole}
use Rattle.protocol.specs.Verdict.{symbol_said, is_clash, is_lost, whole_byte}
use Rattle.symbols.specs.Decision.{grade, lanes_grade, Told}

-- where what elimination says of each lane is what the fitting words say
module _ (s : Settings) (rows : List ℕ) (due t i : ℕ) (x : Reduced) (flags places : List ℕ) (some : 0 < s.lanes)
    (agrees : (v : ℕ) → symbol_of s x (known_in s flags) (lane_byte s places rows v) i ≡ symbol_said s rows due t i v) where
  -- lane v clashes
  abbrev clash : ℕ → Bool
  clash v = clashes s x (known_in s flags) (lane_byte s places rows v)

  -- a lane that clashes has no fitting word
  is_clash_lem : (v : ℕ) → clash v ≡ is_clash (symbol_said s rows due t i v)
  is_clash_lem v = go (clash v) (differs s x i) refl refl
    where
      byte : ℕ → ℕ
      byte = lane_byte s places rows v

      go : (c d : Bool) → clash v ≡ c → differs s x i ≡ d → c ≡ is_clash (symbol_said s rows due t i v)
      go true d c _ = ap is_clash (sym (symbol_clash s x (known_in s flags) byte i c) ∙ agrees v)
      go false true c d = ap is_clash (sym (symbol_lost s x (known_in s flags) byte i c d) ∙ agrees v)
      go false false c d = ap is_clash (sym (symbol_whole s x (known_in s flags) byte i c d) ∙ agrees v)

  all-clash : lanes_clash s x flags places rows ≡ any s.lanes (λ v. is_clash (symbol_said s rows due t i v))
  unfolding lanes_clash
  all-clash = any_same s.lanes clash (λ v. is_clash (symbol_said s rows due t i v)) (λ v h. is_clash_lem v)

  module _ (none : lanes_clash s x flags places rows ≡ false) where
    -- no lane clashes
    lane_clear : (v : ℕ) → v < s.lanes → clash v ≡ false
    unfolding lanes_clash
    lane_clear v h = is_false (clash v) (λ t. subst T none (some_any s.lanes clash v h t))

    -- so a symbol that differs is lost in each lane
    all-lost : differs s x i ≡ true → any s.lanes (λ v. is_lost (symbol_said s rows due t i v)) ≡ true
    all-lost d =
        any-one s.lanes (λ v. is_lost (symbol_said s rows due t i v)) 0 some
        (subst⁻¹ T
        (ap is_lost (sym (agrees 0) ∙ symbol_lost s x (known_in s flags) (lane_byte s places rows 0) i (lane_clear 0 some) d)) tt)

    -- and one that does not is whole in each
    lane_whole : differs s x i ≡ false → (v : ℕ) → v < s.lanes
        → symbol_said s rows due t i v ≡ symbol.Whole (combined s x (lane_byte s places rows v) i)
    lane_whole d v h =
        sym (agrees v) ∙ symbol_whole s x (known_in s flags) (lane_byte s places rows v) i (lane_clear v h) d

    none_lost : differs s x i ≡ false → any s.lanes (λ v. is_lost (symbol_said s rows due t i v)) ≡ false
    none_lost d =
        any_none s.lanes (λ v. is_lost (symbol_said s rows due t i v)) (λ v h t. subst T (ap is_lost (lane_whole d v h)) t)

    -- with the combined sum as its byte
    whole_byte_lem : differs s x i ≡ false → (v : ℕ) → v < s.lanes
        → get_or (combined_lanes s x places rows i) v 0 ≡ whole_byte (symbol_said s rows due t i v)
    unfolding combined_lanes
    whole_byte_lem d v h =
        get_or-table s.lanes (λ v. combined s x (lane_byte s places rows v) i) v 0 h ∙ ap whole_byte (sym (lane_whole d v h))

  -- the grade, by its two tests
  grade_by : (c l : Bool) → lanes_clash s x flags places rows ≡ c → any s.lanes (λ v. is_lost (symbol_said s rows due t i v)) ≡ l
      → grade c l ≡ lanes_grade s rows due t i
  unfolding lanes_grade
  grade_by c l ec el = sym (ap₂ grade (sym all-clash ∙ ec) el)

  pub told : (r : Grade) (out bytes : List ℕ) → answers r bytes ≡ lanes_said s x flags places rows i out → Told s rows due t i r bytes
  unfolding grade
  told r out bytes e = go (lanes_clash s x flags places rows) (differs s x i) refl refl
    where
      -- the answer's grade and bytes, by its case
      by : (m : Grade) (l : List ℕ) → answers m l ≡ lanes_said s x flags places rows i out → (r ≡ m) × (bytes ≡ l)
      by m l case = (ap (λ (a : Answer). a.grade) (e ∙ sym case), ap (λ (a : Answer). a.symbol) (e ∙ sym case))

      go : (c d : Bool) → lanes_clash s x flags places rows ≡ c → differs s x i ≡ d → Told s rows due t i r bytes
      go true d c _ =
          let is = by Clash out (said_clash s x flags places rows i out c) in
          record {
            graded = is.0 ∙ grade_by true (any s.lanes (λ v. is_lost (symbol_said s rows due t i v))) c refl;
            shared = λ whole. absurd (let other : ◌≡◌ {A = Grade} Clash Whole = sym is.0 ∙ whole in cc);
          }
      go false true c d =
          let is = by Lost out (said_lost s x flags places rows i out c d) in
          record {
            graded = is.0 ∙ grade_by false true c (all-lost c d);
            shared = λ whole. absurd (let other : ◌≡◌ {A = Grade} Lost Whole = sym is.0 ∙ whole in cc);
          }
      go false false c d =
          let is = by Whole (combined_lanes s x places rows i) (said_whole s x flags places rows i out c d) in
          record {
            graded = is.0 ∙ grade_by false false c (none_lost c d);
            shared = λ whole v h. ap (λ (l : List ℕ). get_or l v 0) is.1 ∙ whole_byte_lem c d v h;
          }

  -- where the symbol is not whole, the bytes are those that were lent
  pub kept : (r : Grade) (out bytes : List ℕ) → answers r bytes ≡ lanes_said s x flags places rows i out → r ≢ Whole → bytes ≡ out
  kept r out bytes e h = go (lanes_clash s x flags places rows) (differs s x i) refl refl
    where
      -- the answer's bytes, where they are those
      by : (m : Grade) → answers m out ≡ lanes_said s x flags places rows i out → bytes ≡ out
      by m case = ap (λ (a : Answer). a.symbol) (e ∙ sym case)

      go : (c d : Bool) → lanes_clash s x flags places rows ≡ c → differs s x i ≡ d → bytes ≡ out
      go true d c _ = by Clash (said_clash s x flags places rows i out c)
      go false true c d = by Lost (said_lost s x flags places rows i out c d)
      go false false c d =
          let whole : r ≡ Whole = ap (λ (a : Answer). a.grade) (e ∙ sym (said_whole s x flags places rows i out c d)) in
          absurd (h whole)

  -- both
  pub told_and_kept : (r : Grade) (out bytes : List ℕ) → answers r bytes ≡ lanes_said s x flags places rows i out
      → Told s rows due t i r bytes × (r ≢ Whole → bytes ≡ out)
  told_and_kept r out bytes e = (told r out bytes e, kept r out bytes e)
