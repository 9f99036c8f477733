-- The receiver's rows hold the last k + T slots: what they held before the first slot, then the row of each slot's accepted report.
use mathlib.Core.Path.{◌≡◌, refl, sym, ap, ◌∙◌, subst, subst⁻¹}
use mathlib.Core.Bool.{false, true≢false}
use mathlib.Core.List.Memᴰ
use mathlib.Core.List.{List, [], Memᴰ}
use mathlib.Core.Logic.{⊎_elim}
use mathlib.Core.Option.{Option, none, some}
use Prim.Native.Nat.{ℕ, ◌+◌, ◌≤◌, ◌<◌}
use native.Mathlib.Omega.{arith}
use lib.Dec.{T}
use lib.ListN.{get_or}
use Rattle.galois.proofs.Cases.{le_or_lt}
use Rattle.code.specs.declared.settings.Settings.{Settings}
use Rattle.code.proofs.Shape.{Shape, shape}
use Rattle.protocol.specs.Lengths.{row_len, row_count, receiver_len}
use Rattle.protocol.specs.Calls.{Reported, moved_on, row_before, opened_rows, open_receiver_of}
use Rattle.protocol.specs.TwoLists.{Report, ReportMade, reports, row_of}
use Rattle.protocol.specs.Histories.{accepts, ReportedAs, Heard, lost_at, lost_since}
use Rattle.protocol.specs.Claim.{NoCause}
use Rattle.protocol.proofs.Rings.{since, since_first, since_slot, Ring, ring_step}
use Rattle.protocol.proofs.ReportRows.{length-row_of}
use Rattle.protocol.proofs.ReportSteps.{Taken}
use Rattle.protocol.proofs.ReportChain.{written, Finds, Chain, done, onward, again, some_rows, opened_chain}
use Rattle.protocol.proofs.CauseTables.{OpensAt}
use Rattle.protocol.proofs.OpenedRows.{begins}
use Rattle.protocol.proofs.Received.{along, taken_of}
use Rattle.protocol.proofs.Receipts.{call_at, call_of_lem, due_from}
use Rattle.protocol.proofs.SlotReports.{reported, reported_to_lem, lost_before, lost_from, either_way}

-- the rows hold what f says of the last k + T slots before due; f counts from k + T slots before slot 0
abbrev pub Holding : Settings → List ℕ → ℕ → (ℕ → List ℕ) → Type 0
Holding s = Ring (row_count s) (row_len s)

-- ---- along a chain

-- an accepted report leaves the rows with its own row written
rows_after : (s : Settings) (d : ℕ) (rows : List ℕ) (m : ReportMade) → Finds s d rows m → Taken m
    → m.after.rows ≡ written s d m.call rows
unfolding moved_on written
rows_after s d rows m h t = ap (λ (q : Reported). q.rows) t.moved ∙ rw (h.settings, h.slot, h.got)

-- a history f agrees with the rows of the accepted reports
abbrev Agrees : Settings → List ReportMade → (ℕ → List ℕ) → Type 0
Agrees s told f =
    (r : ReportMade) → Memᴰ r told → T (accepts r.after.reply) → row_of s r.call ≡ f (r.before.due + row_count s)

-- the ring one slot later
ring_next : (s : Settings) (d : ℕ) (rows : List ℕ) (m : ReportMade) (f : ℕ → List ℕ) → Shape s → Finds s d rows m → Taken m
    → row_of s m.call ≡ f (m.before.due + row_count s) → Holding s rows d f → Holding s (written s d m.call rows) (d + 1) f
unfolding written receiver_len
ring_next s d rows m f shape h t new ring =
    let free : NoCause s m.before.due m.call = rw h.settings at t.uncaused in
    let here : row_of s m.call ≡ f (d + row_count s) = rw h.slot at new in
    ring_step (row_count s) (row_len s) rows (row_of s m.call) d f (some_rows s shape) h.exact
    (length-row_of s m.before.due m.call free) here ring

-- a report found the ring, if it is of these rows
ring_found : (s : Settings) (d : ℕ) (rows : List ℕ) (x r : ReportMade) (f : ℕ → List ℕ) → Finds s d rows x → Holding s rows d f → r ≡ x
    → Holding s r.rows r.before.due f
ring_found s d rows x r f h ring same =
    subst⁻¹ (λ (q : ReportMade). Holding s q.rows q.before.due f) same (rw (h.got, h.slot) ring)

-- each report finds the ring of any history that agrees
rings : {s : Settings} {d : ℕ} {rows : List ℕ} {told : List ReportMade} → Chain s d rows told → Shape s → (f : ℕ → List ℕ)
    → Agrees s told f → Holding s rows d f → (r : ReportMade) → Memᴰ r told → Holding s r.rows r.before.due f
rings done shape f agrees ring r m = absurd (Memᴰ.not-nil m)
rings {s} {d} {rows} (onward {m = x} h t rest) shape f agrees ring r m =
    ⊎_elim (ring_found s d rows x r f h ring)
    (λ later.
    rings rest shape f (λ r l. agrees r (Memᴰ.tail l))
    (ring_next s d rows x f shape h t (agrees x (Memᴰ.head refl) t.passed) ring) r later)
    (Memᴰ.cases_cons m)
rings {s} {d} {rows} (again {m = x} h t rest) shape f agrees ring r m =
    ⊎_elim (ring_found s d rows x r f h ring) (λ later. rings rest shape f (λ r l. agrees r (Memᴰ.tail l)) ring r later)
    (Memᴰ.cases_cons m)

-- ---- the history of a list of reports

-- the row of a report, if there is one
abbrev pub row_in : Settings → Option Report → List ℕ
row_in s none = []
row_in s (some call) = row_of s call

-- the row of slot τ
unfoldable pub row_of_slot : Settings → List ReportMade → ℕ → List ℕ
row_of_slot s told τ = row_in s (call_at told τ)

-- the rows from k + T slots before slot 0 on: those that `first` says before slot d, and then those of the reports
abbrev pub history : Settings → (ℕ → List ℕ) → ℕ → List ReportMade → ℕ → List ℕ
history s first d told = since (row_count s) d first (row_of_slot s told)

-- these are the reports of a receiver from slot d on, and its rows had begun as `first` says
pub record Begun (s : Settings) (first : ℕ → List ℕ) (d : ℕ) (told : List ReportMade) : Type 0 where
  pub shape : Shape s
  pub opening : List ℕ
  pub chain : Chain s d opening told
  pub held : Holding s opening d first

-- at some point of them slot due was due, and the rows were these
pub record Reached (s : Settings) (first : ℕ → List ℕ) (d : ℕ) (told : List ReportMade) (rows : List ℕ) (due : ℕ) : Type 0 where
  pub begun : Begun s first d told
  pub ring : Holding s rows due (history s first d told)
  pub reported : (τ : ℕ) → d ≤ τ → τ < due → (call : Report) × ReportedAs told τ call

-- then a slot that was reported, and does not count as a loss, was heard
pub heard_since : {s : Settings} {first : ℕ → List ℕ} {d : ℕ} {told : List ReportMade} {rows : List ℕ} {due : ℕ}
    → Reached s first d told rows due → (τ : ℕ) → τ < due → lost_since d (lost_at told) τ ≡ false → (f : List ℕ) × Heard told τ f
heard_since {d = d} {told} c τ now kept =
    ⊎_elim
    (λ from.
    let (call, a) = c.reported τ from now in
    ⊎_elim (λ lost. absurd (subst T (sym (lost_from d (lost_at told) τ from) ∙ kept) lost)) (λ h. h) (either_way c.begun.chain τ call a))
    (λ before. absurd (true≢false (sym (lost_before d (lost_at told) τ before) ∙ kept))) (le_or_lt d τ)

module _ {s : Settings} {first : ℕ → List ℕ} {d : ℕ} {told : List ReportMade} (b : Begun s first d told) where
  history_agrees : Agrees s told (history s first d told)
  unfolding row_of_slot
  history_agrees r listed passed =
      sym
      (since_slot (row_count s) d first (row_of_slot s told) r.before.due (due_from b.chain r listed)
      ∙ ap (row_in s) (call_of_lem b.chain r listed passed))

  -- where they begin
  pub at_first : Reached s first d told b.opening d
  at_first = record {
    begun = b;
    ring = λ σ j low high hj.
        b.held σ j low high hj
        ∙ sym (ap (λ (l : List ℕ). get_or l j 0) (since_first (row_count s) d first (row_of_slot s told) σ high));
    reported = λ τ low high. absurd (omega arith);
  }

  -- what a report found
  pub found_by : (r : ReportMade) → Memᴰ r told → Reached s first d told r.rows r.before.due
  found_by r listed = record {
    begun = b;
    ring = rings b.chain b.shape (history s first d told) history_agrees at_first.ring r listed;
    reported = reported b.chain r listed;
  }

  -- and what an accepted one left
  pub left_by : (r : ReportMade) → Memᴰ r told → T (accepts r.after.reply)
      → Reached s first d told r.after.rows (r.before.due + 1)
  left_by r listed passed =
      let due : ℕ = r.before.due in
      let a = along b.chain r listed in
      let t = taken_of b.chain r listed passed in
      let h : Finds s due r.rows r = record { settings = a.settings; slot = refl; got = refl; exact = a.exact } in
      record {
        begun = b;
        ring = rw (rows_after s due r.rows r h t)
            (ring_next s due r.rows r (history s first d told) b.shape h t (history_agrees r listed passed)
            (found_by r listed).ring);
        reported = reported_to_lem b.chain r listed passed;
      }

-- ---- the opening

-- the reports after an opening begin at its slot
pub opened : (s : Settings) (slot : ℕ) (rows : List ℕ) → OpensAt s slot rows → (calls : List Report)
    → Begun s (row_before s) slot (reports (open_receiver_of s slot rows).receiver (open_receiver_of s slot rows).rows calls)
opened s slot rows opens calls = record {
  shape = shape s opens.settings;
  opening = opened_rows s slot;
  chain = opened_chain s slot rows opens calls;
  held = begins s slot;
}
