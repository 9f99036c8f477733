-- Document 02 §7: why a pair is refused, the papers' number for each cause, and a table of causes read from the top.
use Rattle.std.specs.Prelude.{Bool, true, false, List, [], ◌∷◌, ℕ, Result, Ok, Err}
use Rattle.aerials.specs.declared.PairCause.{PairCause}
use Rattle.aerials.specs.declared.PairCause.TheVariants.{BadSettings, BadLength, OtherMark, OtherSettings, NotRising, Unlike}

-- the number of each
abbrev pub pair_number : PairCause → ℕ
pair_number BadSettings = 1
pair_number BadLength = 2
pair_number OtherMark = 4
pair_number OtherSettings = 5
pair_number NotRising = 9
pair_number Unlike = 10

-- what the check answers
abbrev pub Check : Type 0
Check = Result (Unit {0}) PairCause

-- its number: 0 where the pair is accepted, else the cause's
abbrev pub check_number : Check → ℕ
check_number (Ok nothing) = 0
check_number (Err c) = pair_number c

-- a row: its condition, and the cause
pub record PairRow : Type 0 where
  pub holds : Bool
  pub why : PairCause

abbrev pub pair_row : Bool → PairCause → PairRow
pair_row condition c = record { holds = condition; why = c }

-- refused for the cause c where its condition holds, else what the rest of the table says
abbrev pub refused_if : Bool → PairCause → Check → Check
refused_if true c rest = Err c
refused_if false c rest = rest

-- the first row that holds, if one does
abbrev pub first_cause : List PairRow → Check
first_cause [] = Ok tt
first_cause (r ∷ rs) = refused_if r.holds r.why (first_cause rs)
