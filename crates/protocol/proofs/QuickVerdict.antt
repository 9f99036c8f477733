-- The receiver's replies through elimination, so that the card's figures can be computed: the same replies and message buffers
-- as the definitions give, which try all words.
use Rattle.std.specs.Prelude.{Ok, Err}
use mathlib.Core.Path.{◌≡◌, refl, sym, ap, ap₂, ◌∙◌}
use mathlib.Core.Bool.{Bool, true, false, cond, ◌&&◌}
use mathlib.Core.List.{List, [], ◌∷◌, ◌++◌}
use Prim.Native.Nat.{ℕ, zero, suc, ◌+◌, ◌*◌, ◌/◌, ◌%◌, ◌<◌}
use native.Mathlib.Nat.{div-lt_iff_lt-mul}
use native.Mathlib.Omega.{arith}
use lib.Dec.{T, ltb, ltb→lt, lit<}
use lib.ListN.{get_or, take, drop, replicate}
use Rattle.galois.specs.Bounded.{any}
use Rattle.galois.proofs.Cases.{and_left, and_right, both_pass, any_same}
use Rattle.code.specs.declared.settings.Settings.{Settings}
use Rattle.code.specs.Fitting.{Arrived}
use Rattle.code.specs.Settings.{accepted, delay_of, k_of, n_of}
use Rattle.code.proofs.Shape.{shape}
use Rattle.galois.proofs.ByIndex.{table_equal}
use Rattle.elimination.specs.declared.lane.Symbol.{Symbol}
use Rattle.elimination.specs.Elimination.{eliminated, symbol_of}
use Rattle.elimination.proofs.LaneDecided.{symbol_decided}
use Rattle.protocol.specs.declared.Receiver.{Receiver}
use Rattle.protocol.specs.Answers.{Answer, Reply}
use Rattle.protocol.specs.declared.Told.TheVariants.{NoneYet, Whole, Lost, Clash}
use Rattle.protocol.specs.Lengths.{message_len, row_len, row_count}
use Rattle.protocol.specs.States.{reported_on}
use Rattle.protocol.specs.Rows.{put_row}
use Rattle.protocol.specs.Verdict.{arrived, symbol_said, is_clash, is_lost, whole_byte, some_codeword}
use Rattle.protocol.specs.Verdict.{by_tests, verdict_by, buffer_by, none_fits, two_differ, verdict, buffer_of}
use Rattle.protocol.specs.Causes.{loss_cause, frame_cause}
use Rattle.protocol.specs.Calls.{Reported, message_due, moved_on, loss_of, heard_of}
use Rattle.protocol.specs.TwoLists.{Report, heard, missed, report_of, ReportMade, reports}
use Rattle.protocol.proofs.ReportSteps.{refusal}

-- ---- what computes

-- what elimination says of symbol i of lane v of message t
unfoldable pub quick_symbol : Settings → List ℕ → ℕ → ℕ → ℕ → ℕ → Symbol
quick_symbol s rows due t i v =
    let a : Arrived = arrived s rows due t i v in
    symbol_of s (eliminated s a.known) a.known a.byte i

-- the reply of the report that makes these the rows, with slot d due before it
unfoldable pub quick_reply : Settings → List ℕ → ℕ → Reply
quick_reply s now d =
    elim (ltb d (delay_of s)) [ true ↦ Ok NoneYet | false ↦ verdict_by s (quick_symbol s now (d + 1) (message_due s d)) ]

-- an accepted report
unfoldable pub quick_moved : Receiver → List ℕ → List ℕ → Reported
quick_moved x row rows =
    let s = x.settings in
    let now : List ℕ = put_row (row_len s) (x.due % row_count s) row rows in
    let told : Reply = quick_reply s now x.due in
    record {
      reply = told;
      receiver = reported_on x;
      rows = now;
      message = buffer_by s (quick_symbol s now (x.due + 1) (message_due s x.due)) told;
    }

-- any report
unfoldable pub quick_report : Receiver → List ℕ → Report → Reported
quick_report x rows (heard frame message) =
    elim (frame_cause x rows frame message) [
      | Ok tt ↦ quick_moved x (1 ∷ drop 14 frame) rows
      | Err c ↦ refusal c x rows message
    ]
quick_report x rows (missed message) =
    elim (loss_cause x rows message) [
      | Ok tt ↦ quick_moved x (replicate (row_len x.settings) 0) rows
      | Err c ↦ refusal c x rows message
    ]

-- the reports of a list of calls
unfoldable pub quick_reports : Receiver → List ℕ → List Report → List ReportMade
quick_reports x rows [] = []
quick_reports x rows (c ∷ cs) =
    let r : Reported = quick_report x rows c in
    record { before = x; rows = rows; call = c; after = r } ∷ quick_reports r.receiver r.rows cs

-- ---- lists of bytes, by a test

-- each element is below 256
unfoldable pub small : List ℕ → Bool
small [] = true
small (x ∷ l) = ltb x 256 && small l

-- the frames that these reports bring are lists of bytes
unfoldable pub small_frames : List Report → Bool
small_frames [] = true
small_frames (heard frame message ∷ cs) = small frame && small_frames cs
small_frames (missed message ∷ cs) = small_frames cs

-- an element is a byte, and so is 0 past the end
small_at : (l : List ℕ) → T (small l) → (j : ℕ) → get_or l j 0 < 256
unfolding small
small_at [] h j = lit< tt
small_at (x ∷ l) h zero = ltb→lt x 256 (and_left (ltb x 256) (small l) h)
small_at (x ∷ l) h (suc j) = small_at l (and_right (ltb x 256) (small l) h) j

-- two lists of bytes after each other are one
small_append : (a b : List ℕ) → T (small a) → T (small b) → T (small (a ++ b))
unfolding small
small_append [] b ha hb = hb
small_append (x ∷ a) b ha hb =
    both_pass (ltb x 256) (small (a ++ b)) (and_left (ltb x 256) (small a) ha)
    (small_append a b (and_right (ltb x 256) (small a) ha) hb)

-- the first elements of a list of bytes are bytes
small_take : (n : ℕ) (l : List ℕ) → T (small l) → T (small (take n l))
unfolding small
small_take zero l h = tt
small_take (suc n) [] h = tt
small_take (suc n) (x ∷ l) h =
    both_pass (ltb x 256) (small (take n l)) (and_left (ltb x 256) (small l) h)
    (small_take n l (and_right (ltb x 256) (small l) h))

-- and so are the others
small_drop : (n : ℕ) (l : List ℕ) → T (small l) → T (small (drop n l))
unfolding small
small_drop zero l h = h
small_drop (suc n) [] h = tt
small_drop (suc n) (x ∷ l) h = small_drop n l (and_right (ltb x 256) (small l) h)

-- zeros are bytes
small_zeros : (n : ℕ) → T (small (replicate n 0))
unfolding small
small_zeros zero = tt
small_zeros (suc n) = small_zeros n

-- a row of bytes written over rows of bytes leaves bytes
small_put : (size r : ℕ) (row rows : List ℕ) → T (small row) → T (small rows) → T (small (put_row size r row rows))
unfolding put_row
small_put size r row rows h hs =
    small_append (take (r * size) rows ++ row) (drop (r * size + size) rows)
    (small_append (take (r * size) rows) row (small_take (r * size) rows hs) h) (small_drop (r * size + size) rows hs)

-- ---- the laws

module _ (s : Settings) (ok : T (accepted s)) (rows : List ℕ) (bytes : T (small rows)) (due t : ℕ) where
  -- what the fitting words say of each symbol, and what elimination says
  abbrev told : ℕ → ℕ → Symbol
  told = symbol_said s rows due t

  abbrev quickly : ℕ → ℕ → Symbol
  quickly = quick_symbol s rows due t

  -- both are the same
  pub quick_symbol_lem : (i v : ℕ) → i < k_of s → told i v ≡ quickly i v
  unfolding symbol_said quick_symbol arrived n_of
  quick_symbol_lem i v hi =
      sym
      (symbol_decided s ok (arrived s rows due t i v) (λ p. small_at rows bytes _) i (omega arith))

  -- so both pass a test at some codeword together
  some_alike : (test : Symbol → Bool) → some_codeword s (λ i v. test (told i v)) ≡ some_codeword s (λ i v. test (quickly i v))
  unfolding some_codeword
  some_alike test =
      any_same (k_of s) (λ i. any s.lanes (λ v. test (told i v))) (λ i. any s.lanes (λ v. test (quickly i v)))
      (λ i hi. any_same s.lanes (λ v. test (told i v)) (λ v. test (quickly i v)) (λ v hv. ap test (quick_symbol_lem i v hi)))

  -- and the verdict is the one that elimination gives
  pub quick_verdict : verdict s rows due t ≡ verdict_by s quickly
  unfolding verdict none_fits two_differ
  quick_verdict = ap₂ by_tests (some_alike is_clash) (some_alike is_lost)

  -- and so is the message buffer
  pub quick_buffer : (r : Reply) → buffer_of s rows due t r ≡ buffer_by s quickly r
  unfolding buffer_of message_len
  quick_buffer (Err c) = refl
  quick_buffer (Ok NoneYet) = refl
  quick_buffer (Ok Whole) =
      let byte : (ℕ → ℕ → Symbol) → ℕ → ℕ = λ f q. whole_byte (f (q / s.lanes) (q % s.lanes)) in
      table_equal (message_len s) (byte told) (byte quickly)
      (λ q hq. ap whole_byte (quick_symbol_lem (q / s.lanes) (q % s.lanes) ((div-lt_iff_lt-mul (shape s ok).lanes_positive).1 hq)))
  quick_buffer (Ok Lost) = refl
  quick_buffer (Ok Clash) = refl

-- the reply of a report
quick_reply_lem : (s : Settings) → T (accepted s) → (now : List ℕ) → T (small now) → (d : ℕ)
    → cond (ltb d (delay_of s)) (Ok NoneYet) (verdict s now (d + 1) (message_due s d)) ≡ quick_reply s now d
unfolding quick_reply
quick_reply_lem s ok now h d =
    ap (cond (ltb d (delay_of s)) (Ok NoneYet)) (quick_verdict s ok now h (d + 1) (message_due s d))
    ∙ chosen (ltb d (delay_of s)) (verdict_by s (quick_symbol s now (d + 1) (message_due s d)))
  where
    chosen : (b : Bool) (r : Reply) → cond b (Ok NoneYet) r ≡ elim b [ true ↦ Ok NoneYet | false ↦ r ]
    chosen true r = refl
    chosen false r = refl

-- an accepted report comes to the same
pub quick_moved_lem : (x : Receiver) → T (accepted x.settings) → (row rows : List ℕ) → T (small row) → T (small rows)
    → moved_on x row rows ≡ quick_moved x row rows
unfolding moved_on quick_moved
quick_moved_lem x ok row rows h hs =
    let s = x.settings in
    let now : List ℕ = put_row (row_len s) (x.due % row_count s) row rows in
    let bytes : T (small now) = small_put (row_len s) (x.due % row_count s) row rows h hs in
    let told = quick_reply_lem s ok now bytes x.due in
    let held = ap (buffer_of s now (x.due + 1) (message_due s x.due)) told
    ∙ quick_buffer s ok now bytes (x.due + 1) (message_due s x.due) (quick_reply s now x.due) in
    λ i. record {
      reply = told i;
      receiver = reported_on x;
      rows = now;
      message = held i;
    }

-- what a list of reports needs of the state and rows that each one leaves
abbrev pub Kept : Reported → Type 0
Kept r = T (accepted r.receiver.settings) × T (small r.rows)

module _ (x : Receiver) (ok : T (accepted x.settings)) (rows : List ℕ) (hs : T (small rows)) where
  -- where no cause is found a report moves on, else it is refused
  abbrev slow : Answer → List ℕ → List ℕ → Reported
  slow found row message = elim found [ Ok tt ↦ moved_on x row rows | Err c ↦ refusal c x rows message ]

  -- the same by quick_moved
  abbrev quick : Answer → List ℕ → List ℕ → Reported
  quick found row message = elim found [ Ok tt ↦ quick_moved x row rows | Err c ↦ refusal c x rows message ]

  -- both come to the same
  slow_quick : (row message : List ℕ) → T (small row) → (found : Answer) → slow found row message ≡ quick found row message
  slow_quick row message h (Ok tt) = quick_moved_lem x ok row rows h hs
  slow_quick row message h (Err c) = refl

  -- the settings stay accepted, and the rows bytes
  quick_kept : (row message : List ℕ) → T (small row) → (found : Answer) → Kept (quick found row message)
  unfolding quick_moved
  quick_kept row message h (Ok tt) = (ok, small_put (row_len x.settings) (x.due % row_count x.settings) row rows h hs)
  quick_kept row message h (Err c) = (ok, hs)

  -- a report comes to the same, and leaves what the next one needs
  pub quick_report_lem : (c : Report) → T (small_frames (c ∷ []))
      → (report_of x rows c ≡ quick_report x rows c) × Kept (quick_report x rows c)
  unfolding report_of heard_of loss_of quick_report small_frames small
  quick_report_lem (heard frame message) h =
      let bytes : T (small (1 ∷ drop 14 frame)) = small_drop 14 frame (and_left (small frame) true h) in
      let found : Answer = frame_cause x rows frame message in
      (slow_quick (1 ∷ drop 14 frame) message bytes found, quick_kept (1 ∷ drop 14 frame) message bytes found)
  quick_report_lem (missed message) h =
      let zeros : List ℕ = replicate (row_len x.settings) 0 in
      let bytes : T (small zeros) = small_zeros (row_len x.settings) in
      let found : Answer = loss_cause x rows message in
      (slow_quick zeros message bytes found, quick_kept zeros message bytes found)

-- the first frame is a list of bytes, and so are the rest
small_first : (c : Report) (cs : List Report) → T (small_frames (c ∷ cs)) → T (small_frames (c ∷ [])) × T (small_frames cs)
unfolding small_frames
small_first (heard frame message) cs h =
    (both_pass (small frame) true (and_left (small frame) (small_frames cs) h) tt, and_right (small frame) (small_frames cs) h)
small_first (missed message) cs h = (tt, h)

-- the reports of any list of calls that bring bytes come to the same
pub quick_reports_lem : (x : Receiver) → T (accepted x.settings) → (rows : List ℕ) → T (small rows)
    → (calls : List Report) → T (small_frames calls) → reports x rows calls ≡ quick_reports x rows calls
unfolding reports quick_reports
quick_reports_lem x ok rows hs [] h = refl
quick_reports_lem x ok rows hs (c ∷ cs) h =
    let q : Reported = quick_report x rows c in
    let both = small_first c cs h in
    let same = quick_report_lem x ok rows hs c both.0 in
    let made : Reported → List ReportMade → List ReportMade
    = λ r l. record { before = x; rows = rows; call = c; after = r } ∷ l in
    ap (λ (r : Reported). made r (reports r.receiver r.rows cs)) same.0
    ∙ ap (made q) (quick_reports_lem q.receiver same.1.0 q.rows same.1.1 cs both.1)
