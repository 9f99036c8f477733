-- What elimination says of one symbol of all lanes at once.
use Rattle.std.specs.Prelude.{◌≡◌, Bool, true, false, cond, not, List, ℕ, ◌<◌, eqb, get_or}
use Rattle.galois.specs.Bounded.{any}
use Rattle.galois.specs.Byte.{◌⊗◌}
use Rattle.galois.specs.Table.{table}
use Rattle.code.specs.declared.settings.Settings.{Settings}
use Rattle.code.specs.Settings.{k_of}
use Rattle.elimination.specs.declared.grade.Grade.{Grade}
use Rattle.elimination.specs.declared.grade.Grade.TheVariants.{Whole, Lost, Clash}
use Rattle.elimination.specs.declared.reduced.Reduced.{Reduced}
use Rattle.elimination.specs.Elimination.{free, cell, combined, clashes, differs, known_in}
use Rattle.shares.specs.Shares.{lane_byte}

-- row r's share of the combined sum of lane v at position q
abbrev pub share : Settings → Reduced → List ℕ → List ℕ → ℕ → ℕ → ℕ → ℕ
share s x places bytes q r v = cond (free x.roles r) 0 (lane_byte s places bytes v (get_or x.roles r 16) ⊗ cell x.rows r q)

-- where row i is the pivot of position i, column i is a unit
abbrev pub Own : Settings → Reduced → ℕ → Type 0
Own s x i = get_or x.roles i 16 ≡ i → (r : ℕ) → r < k_of s → cell x.rows r i ≡ cond (eqb r i) 1 0

-- the combined sum of each lane at position q
unfoldable pub combined_lanes : Settings → Reduced → List ℕ → List ℕ → ℕ → List ℕ
combined_lanes s x places bytes q = table s.lanes (λ v. combined s x (lane_byte s places bytes v) q)

-- in some lane the combined sum at position q is not the byte that arrived
unfoldable pub clash_at : Settings → Reduced → List ℕ → List ℕ → ℕ → Bool
clash_at s x places bytes q = any s.lanes (λ v. not (eqb (combined s x (lane_byte s places bytes v) q) (lane_byte s places bytes v q)))

-- some lane clashes
unfoldable pub lanes_clash : Settings → Reduced → List ℕ → List ℕ → List ℕ → Bool
lanes_clash s x flags places bytes = any s.lanes (λ v. clashes s x (known_in s flags) (lane_byte s places bytes v))

-- an answer's grade, and the L bytes of the symbol
pub record Answer : Type 0 where
  pub grade : Grade
  pub symbol : List ℕ

-- a clash if some lane clashes, else lost if the symbol is, else whole and the shared bytes; what was lent stays where it is not whole
unfoldable pub lanes_said : Settings → Reduced → List ℕ → List ℕ → List ℕ → ℕ → List ℕ → Answer
lanes_said s x flags places bytes i out =
    elim (lanes_clash s x flags places bytes) [
      | true ↦ record { grade = Clash; symbol = out }
      | false ↦ elim (differs s x i) [
        | true ↦ record { grade = Lost; symbol = out }
        | false ↦ record { grade = Whole; symbol = combined_lanes s x places bytes i }
      ]
    ]
