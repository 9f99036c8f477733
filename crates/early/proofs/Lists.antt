-- A mixed list by its parts: the reports among its calls are the list of these reports, since a look-up leaves the state and rows.
use mathlib.Core.Path.{◌≡◌, refl, ap, ◌∙◌}
use mathlib.Core.List.{List, [], ◌∷◌, map}
use Prim.Native.Nat.{ℕ}
use Rattle.protocol.specs.declared.Receiver.{Receiver}
use Rattle.protocol.specs.Calls.{Reported}
use Rattle.protocol.specs.TwoLists.{Report, report_of, reports, ReportMade}
use Rattle.early.specs.Mixed.{Call, report, look_up, calls, reports_in}

-- the reports among calls that are to be made
abbrev pub report_calls : List Call → List Report
report_calls [] = []
report_calls (report call ∷ cs) = call ∷ report_calls cs
report_calls (look_up number message ∷ cs) = report_calls cs

-- those that were made are the list of them
pub reports_in_lem : (x : Receiver) (rows : List ℕ) (cs : List Call) → reports_in (calls x rows cs) ≡ reports x rows (report_calls cs)
unfolding calls reports_in reports
reports_in_lem x rows [] = refl
reports_in_lem x rows (report call ∷ cs) =
    let r : Reported = report_of x rows call in
    ap (λ (rest : List ReportMade). record { before = x; rows = rows; call = call; after = r } ∷ rest) (reports_in_lem r.receiver r.rows cs)
reports_in_lem x rows (look_up number message ∷ cs) = reports_in_lem x rows cs

-- so the lists of demand 3 are those without look-ups
same_reports : (cs : List Report) → report_calls (map report cs) ≡ cs
same_reports [] = refl
same_reports (c ∷ cs) = ap (λ (rest : List Report). c ∷ rest) (same_reports cs)

pub without_look_ups : (x : Receiver) (rows : List ℕ) (cs : List Report) → reports_in (calls x rows (map report cs)) ≡ reports x rows cs
without_look_ups x rows cs = reports_in_lem x rows (map report cs) ∙ ap (reports x rows) (same_reports cs)
