-- What the receiver works out on its way to a verdict: what is told of a symbol, and the worst grade so far.
use Rattle.std.specs.Prelude.{◌≡◌, Bool, cond, List, ℕ, ◌/◌, ◌%◌, ◌<◌, get_or}
use Rattle.galois.specs.Bounded.{any}
use Rattle.code.specs.declared.settings.Settings.{Settings}
use Rattle.elimination.specs.declared.grade.Grade.{Grade}
use Rattle.elimination.specs.declared.grade.Grade.TheVariants.{Whole, Lost, Clash}
use Rattle.protocol.specs.Verdict.{symbol_said, is_clash, is_lost, whole_byte}

-- a clash, else a loss, else whole
unfoldable pub grade : Bool → Bool → Grade
grade clash lost = cond clash Clash (cond lost Lost Whole)

-- the grade of symbol i in all lanes
unfoldable pub lanes_grade : Settings → List ℕ → ℕ → ℕ → ℕ → Grade
lanes_grade s rows due t i =
    grade (any s.lanes (λ v. is_clash (symbol_said s rows due t i v))) (any s.lanes (λ v. is_lost (symbol_said s rows due t i v)))

-- what is told of symbol i: its grade, and where it is whole the byte of each lane
pub record Told (s : Settings) (rows : List ℕ) (due t i : ℕ) (r : Grade) (symbol : List ℕ) : Type 0 where
  pub graded : r ≡ lanes_grade s rows due t i
  pub shared : r ≡ Whole → (v : ℕ) → v < s.lanes → get_or symbol v 0 ≡ whole_byte (symbol_said s rows due t i v)

-- the grade of the first m symbols
unfoldable pub symbols_grade : Settings → List ℕ → ℕ → ℕ → ℕ → Grade
symbols_grade s rows due t m =
    grade (any m (λ i. any s.lanes (λ v. is_clash (symbol_said s rows due t i v))))
    (any m (λ i. any s.lanes (λ v. is_lost (symbol_said s rows due t i v))))

-- byte q of the message, where the fitting words share it
unfoldable pub shared_byte : Settings → List ℕ → ℕ → ℕ → ℕ → ℕ
shared_byte s rows due t q = whole_byte (symbol_said s rows due t (q / s.lanes) (q % s.lanes))
