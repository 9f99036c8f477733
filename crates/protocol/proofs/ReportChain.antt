-- A list of reports as a chain: each one finds the slot due and the rows that the one before it left.
use Rattle.std.specs.Prelude.{Ok}
use mathlib.Core.Path.{◌≡◌, refl, subst⁻¹}
use mathlib.Core.List.{List, [], ◌∷◌}
use mathlib.Core.Logic.{⊎_elim}
use Prim.Native.Nat.{ℕ, ◌+◌, ◌%◌, ◌<◌}
use native.Mathlib.Nat.{mod-lt}
use native.Mathlib.Omega.{arith}
use lib.Dec.{T}
use lib.ListN.{length}
use Rattle.code.specs.declared.settings.Settings.{Settings}
use Rattle.code.specs.Settings.{accepted}
use Rattle.code.proofs.Shape.{Shape, shape}
use Rattle.protocol.specs.declared.Receiver.{Receiver}
use Rattle.protocol.specs.Lengths.{row_len, row_count, receiver_len}
use Rattle.protocol.specs.States.{opened_receiver, reported_on}
use Rattle.protocol.specs.Rows.{put_row}
use Rattle.protocol.specs.Calls.{Reported, moved_on, opened_rows, open_receiver_of}
use Rattle.protocol.specs.TwoLists.{Report, report_of, ReportMade, reports, row_of}
use Rattle.protocol.proofs.Rings.{length-put_row}
use Rattle.protocol.proofs.CauseTables.{OpensAt, receiver_clear}
use Rattle.protocol.proofs.OpenedRows.{length-opened_rows}
use Rattle.protocol.proofs.ReportRows.{length-row_of}
use Rattle.protocol.proofs.ReportSteps.{made, Taken, Stayed, step}

-- the rows once the report of slot d is accepted
unfoldable pub written : Settings → ℕ → Report → List ℕ → List ℕ
written s d call rows = put_row (row_len s) (d % row_count s) (row_of s call) rows

-- a report that found slot d due, and these rows
pub record Finds (s : Settings) (d : ℕ) (rows : List ℕ) (m : ReportMade) : Type 0 where
  pub settings : m.before.settings ≡ s
  pub slot : m.before.due ≡ d
  pub got : m.rows ≡ rows
  pub exact : length rows ≡ receiver_len s

-- from slot d and these rows on: an accepted report is followed by those of slot d + 1, a refused one by those of slot d
pub data Chain (s : Settings) : ℕ → List ℕ → List ReportMade → Type 0 where
  done : {d : ℕ} {rows : List ℕ} → Chain s d rows []
  onward : {d : ℕ} {rows : List ℕ} {m : ReportMade} {rest : List ReportMade} → Finds s d rows m → Taken m
      → Chain s (d + 1) (written s d m.call rows) rest → Chain s d rows (m ∷ rest)
  again : {d : ℕ} {rows : List ℕ} {m : ReportMade} {rest : List ReportMade} → Finds s d rows m → Stayed m
      → Chain s d rows rest → Chain s d rows (m ∷ rest)

-- there is at least one row
pub some_rows : (s : Settings) → Shape s → 0 < row_count s
unfolding row_count
some_rows s h = omega arith

-- the exact length stays
pub length-written : (s : Settings) (d : ℕ) (call : Report) (rows : List ℕ) → Shape s → length rows ≡ receiver_len s
    → length (row_of s call) ≡ row_len s → length (written s d call rows) ≡ receiver_len s
unfolding written receiver_len
length-written s d call rows h full fits =
    length-put_row (row_count s) (row_len s) rows (row_of s call) full fits (d % row_count s) (mod-lt d (some_rows s h))

-- the reports of a receiver are a chain from its slot due and these rows on
abbrev Chained : Receiver → List ℕ → List ReportMade → Type 0
Chained x rows told = Chain x.settings x.due rows told

-- the rows that it leaves where the report is accepted
abbrev written_by : Receiver → Report → List ℕ → List ℕ
written_by x call rows = written x.settings x.due call rows

module _ (x : Receiver) (rows : List ℕ) (c : Report) (cs : List Report) (exact : length rows ≡ receiver_len x.settings) where
  chain_taken : Taken (made x rows c)
      → Chained (reported_on x) (written_by x c rows) (reports (reported_on x) (written_by x c rows) cs)
      → Chained x rows (reports x rows (c ∷ cs))
  unfolding reports moved_on written
  chain_taken t next =
      onward (record { settings = refl; slot = refl; got = refl; exact = exact }) t
      (subst⁻¹ (λ (r : Reported). Chained (reported_on x) (written_by x c rows) (reports r.receiver r.rows cs)) t.moved next)

  chain_stayed : Stayed (made x rows c) → Chained x rows (reports x rows cs) → Chained x rows (reports x rows (c ∷ cs))
  unfolding reports
  chain_stayed t next =
      let r : Reported = report_of x rows c in
      let rest : Chained x rows (reports r.receiver r.rows cs) = rw (t.same_receiver, t.same_rows) next in
      again (record { settings = refl; slot = refl; got = refl; exact = exact }) t rest

-- the reports of any calls are a chain, from any receiver with accepted settings and any rows of the exact length
pub chain : (x : Receiver) → T (accepted x.settings) → (rows : List ℕ) (calls : List Report)
    → length rows ≡ receiver_len x.settings → Chain x.settings x.due rows (reports x rows calls)
unfolding reports
chain x ok rows [] exact = done
chain x ok rows (c ∷ cs) exact =
    let s = x.settings in
    ⊎_elim
    (λ t.
    chain_taken x rows c cs exact t
    (chain (reported_on x) ok (written_by x c rows) cs
    (length-written s x.due c rows (shape s ok) exact (length-row_of s x.due c t.uncaused))))
    (λ t. chain_stayed x rows c cs exact t (chain x ok rows cs exact)) (step x rows ok exact c)

-- ---- from the opening on

module _ (s : Settings) (slot : ℕ) (rows : List ℕ) (opens : OpensAt s slot rows) where
  -- opening makes its slot due, and the rows those of the slots before it
  pub opened_receiver_lem : open_receiver_of s slot rows
      ≡ record { answer = Ok tt; receiver = opened_receiver s slot; rows = opened_rows s slot }
  unfolding open_receiver_of
  opened_receiver_lem = rw (receiver_clear s slot rows opens, open_receiver_of)

  -- the reports after an accepted opening are a chain from its slot and these rows on
  pub opened_chain : (calls : List Report)
      → Chain s slot (opened_rows s slot) (reports (open_receiver_of s slot rows).receiver (open_receiver_of s slot rows).rows calls)
  opened_chain calls =
      rw opened_receiver_lem (chain (opened_receiver s slot) opens.settings (opened_rows s slot) calls (length-opened_rows s slot))
