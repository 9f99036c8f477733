-- Later slots are as losses to a look-up: `later_lost`, whose statement is `LaterLost` of specs/Early.antt.
use Rattle.std.specs.Prelude.{Ok}
use mathlib.Core.Path.{◌≡◌, sym, ap, ◌∙◌, subst}
use mathlib.Core.List.Memᴰ
use mathlib.Core.List.{List, [], ◌∷◌, Memᴰ}
use mathlib.Core.Logic.{⊎_elim}
use Prim.Native.Nat.{ℕ, ◌+◌, ◌-◌, ◌*◌, ◌%◌, ◌≤◌, ◌<◌}
use native.Mathlib.Omega.{arith}
use lib.Dec.{T}
use lib.IntN.{pos}
use lib.ListN.{get_or, length, drop, get_or-replicate}
use lib.Seq.{get_or-drop}
use Rattle.galois.proofs.Cases.{le_or_lt}
use Rattle.code.specs.declared.settings.Settings.{Settings}
use Rattle.code.specs.Settings.{delay_of, k_of}
use Rattle.code.specs.Fitting.{Arrived}
use Rattle.code.proofs.Shape.{shape}
use Rattle.elimination.proofs.ValueLaws.{Part, fits_part}
use Rattle.protocol.specs.declared.Receiver.{Receiver}
use Rattle.protocol.specs.Answers.{Reply}
use Rattle.protocol.specs.declared.Told.TheVariants.{Whole, Lost, Clash}
use Rattle.protocol.specs.Lengths.{row_len, row_count}
use Rattle.protocol.specs.Numbers.{reply_number}
use Rattle.protocol.specs.Verdict.{arrived, verdict, buffer_of}
use Rattle.protocol.specs.Calls.{Looked}
use Rattle.protocol.specs.TwoLists.{Report, heard, missed, report_of, ReportMade, reports, row_of}
use Rattle.protocol.specs.Histories.{of_loss}
use Rattle.protocol.specs.Meaning.{Fitting, SomeClash, SomeLost}
use Rattle.protocol.proofs.NumberLaws.{reply_tells}
use Rattle.protocol.proofs.ReportMeaning.{verdict_one}
use Rattle.protocol.proofs.VerdictMeaning.{verdict_clash, verdict_lost, verdict_else, whole_bytes, whole_list, buffer_length, buffer_zeros}
use Rattle.protocol.proofs.ReportCauses.{LossOpen}
use Rattle.protocol.proofs.ReportChain.{chain}
use Rattle.protocol.proofs.Received.{told_at}
use Rattle.protocol.proofs.ReceivedRows.{Begun, Reached, at_first, left_by}
use Rattle.protocol.proofs.SlotRows.{row_reported}
use Rattle.protocol.proofs.Arrivals.{known_flag_lem, byte_says}
use Rattle.protocol.proofs.EarlyVerdict.{arrived_part}
use Rattle.protocol.proofs.LookUps.{look_up_uncaused, look_up_open, look_up_told, told_by_verdict}
use Rattle.early.specs.Early.{LaterLost}

-- ---- the same arrived

-- what arrived has the same fitting words
abbrev SameWords : Settings → (ℕ → ℕ → Arrived) → (ℕ → ℕ → Arrived) → Type 0
SameWords s what what' = (i v : ℕ) → i < k_of s → v < s.lanes → (u : ℕ → ℕ) → Fitting s (what i v) u → Fitting s (what' i v) u

clash_moves : (s : Settings) (what what' : ℕ → ℕ → Arrived) → SameWords s what' what → SomeClash s what → SomeClash s what'
clash_moves s what what' back c = record {
  symbol = c.symbol;
  lane = c.lane;
  symbol_below = c.symbol_below;
  lane_below = c.lane_below;
  none_fits_lem = λ u f. c.none_fits_lem u (back c.symbol c.lane c.symbol_below c.lane_below u f);
}

lost_moves : (s : Settings) (what what' : ℕ → ℕ → Arrived) → SameWords s what what' → SomeLost s what → SomeLost s what'
lost_moves s what what' forth c =
    let moved = forth c.symbol c.lane c.symbol_below c.lane_below in
    record {
      symbol = c.symbol;
      lane = c.lane;
      symbol_below = c.symbol_below;
      lane_below = c.lane_below;
      one = c.one;
      other = c.other;
      one_fits = moved c.one c.one_fits;
      other_fits = moved c.other c.other_fits;
      they_differ = c.they_differ;
    }

-- so the same is told
module _ (s : Settings) (some : 0 < s.lanes) (rows rows' : List ℕ) (due due' t : ℕ)
    (forth : SameWords s (arrived s rows due t) (arrived s rows' due' t))
    (back : SameWords s (arrived s rows' due' t) (arrived s rows due t)) where
  abbrev what : ℕ → ℕ → Arrived
  what = arrived s rows due t

  abbrev what' : ℕ → ℕ → Arrived
  what' = arrived s rows' due' t

  told_same : verdict s rows due t ≡ verdict s rows' due' t
  told_same =
      let is : (r : Reply) → reply_number (verdict s rows due t) ≡ reply_number r → verdict s rows due t ≡ r
      = reply_tells (verdict s rows due t) in
      ⊎_elim
      (λ n.
      let (no_clash, no-loss) = (verdict_else s rows due t).0 (is (Ok Whole) n) in
      is (Ok Whole) n
      ∙ sym ((verdict_else s rows' due' t).1 (
        λ c. no_clash (clash_moves s what' what forth c),
        λ l. no-loss (lost_moves s what' what back l),
      )))
      (λ rest.
      ⊎_elim
      (λ n.
      let (no_clash, l) = (verdict_lost s rows due t).0 (is (Ok Lost) n) in
      is (Ok Lost) n
      ∙ sym ((verdict_lost s rows' due' t).1 (λ c. no_clash (clash_moves s what' what forth c), lost_moves s what what' forth l)))
      (λ n.
      is (Ok Clash) n ∙ sym
      ((verdict_clash s rows' due' t).1 (clash_moves s what what' back ((verdict_clash s rows due t).0 (is (Ok Clash) n)))))
      rest)
      (verdict_one s rows due t)

  -- with the same message buffer: the bytes that the fitting words share, or zeros
  held_same : buffer_of s rows due t (verdict s rows due t) ≡ buffer_of s rows' due' t (verdict s rows' due' t)
  held_same =
      let out : List ℕ = buffer_of s rows' due' t (verdict s rows' due' t) in
      ⊎_elim
      (λ n.
      let whole : verdict s rows' due' t ≡ (Ok Whole) = sym told_same ∙ reply_tells (verdict s rows due t) (Ok Whole) n in
      whole_list s rows due t some out (buffer_length s rows' due' t (verdict s rows' due' t))
      (λ i v hi hv.
      let x = whole_bytes s rows' due' t whole i v hi hv in
      record { word = x.word; is_such = back i v hi hv x.word x.is_such; all_have = λ u f. x.all_have u (forth i v hi hv u f) }))
      (λ rest.
      let not-whole : reply_number (verdict s rows due t) ≡ 17 → ⊥ = λ e. ⊎_elim (λ n. omega arith) (λ n. omega arith) rest in
      buffer_zeros s rows due t (verdict s rows due t) not-whole
      ∙ sym (buffer_zeros s rows' due' t (verdict s rows' due' t) (λ e. not-whole (ap reply_number told_same ∙ e))))
      (verdict_one s rows due t)

-- ---- losses alone

-- the call of a report in a list is one of the list's
call_listed : (x : Receiver) (rows : List ℕ) (cs : List Report) (r : ReportMade) → Memᴰ r (reports x rows cs) → Memᴰ r.call cs
unfolding reports
call_listed x rows [] r listed = absurd (Memᴰ.not-nil listed)
call_listed x rows (c ∷ cs) r listed =
    ⊎_elim (λ same. Memᴰ.head (ap (λ (q : ReportMade). q.call) same))
    (λ later. Memᴰ.tail (call_listed (report_of x rows c).receiver (report_of x rows c).rows cs r later))
    (Memᴰ.cases_cons listed)

-- a row that a loss wrote is not received
lost_row : (s : Settings) (call : Report) → T (of_loss call) → get_or (row_of s call) 0 0 ≡ 1 → ⊥
unfolding row_of row_len
lost_row s (heard frame message) lost flag = absurd lost
lost_row s (missed message) lost flag =
    let z : ◌≡◌ {A = ℕ} 0 1 = sym (get_or-replicate (row_len s) 0 0 0 (omega arith)) ∙ flag in
    omega arith

-- from any receiver with accepted settings and rows of the exact length on
module _ (x : Receiver) (rows message : List ℕ) (h : LossOpen x rows message) (losses : List Report)
    (all : (c : Report) → Memᴰ c losses → T (of_loss c)) where
  abbrev told : List ReportMade
  told = reports x rows losses

  -- the rows that they begin with, whatever they hold
  abbrev held : ℕ → List ℕ
  held σ = drop (σ % row_count x.settings * row_len x.settings) rows

  begun : Begun x.settings held x.due told
  begun = record {
    shape = shape x.settings h.settings;
    opening = rows;
    chain = chain x h.settings rows losses h.rows_exact;
    held = λ σ j low high hj. sym (get_or-drop (σ % row_count x.settings * row_len x.settings) rows j 0);
  }

  module _ {later : List ℕ} {due : ℕ} (c : Reached x.settings held x.due told rows x.due)
      (c' : Reached x.settings held x.due told later due) (t : ℕ) (onward : x.due ≤ due) (to : due ≤ t + delay_of x.settings + 1) where
    -- nothing more arrives
    nothing_more : (i v : ℕ) → i < k_of x.settings → v < x.settings.lanes
        → Part x.settings (arrived x.settings later due t i v) (arrived x.settings rows x.due t i v)
    nothing_more i v hi hv p hp known =
        let (now, flag) = (known_flag_lem c' t to i p v hi).0 known in
        let early : x.due ≤ t + delay_of x.settings + 1 = omega arith in
        ⊎_elim
        (λ from.
        let (call, a) = c'.reported (t + p - i) (omega arith) (omega arith) in
        let lost : T (of_loss call) = all call
        (subst (λ (q : Report). Memᴰ q losses) a.called (call_listed x rows losses a.report a.listed)) in
        absurd (lost_row x.settings call lost (sym (ap (λ (l : List ℕ). get_or l 0 0) (row_reported c' t i p hi from call a)) ∙ flag)))
        (λ before. (
          (known_flag_lem c t early i p v hi).1 (before, flag),
          byte_says c' t to i p v hi hp hv now ∙ sym (byte_says c t early i p v hi hp hv before),
        ))
        (le_or_lt (x.due + i) (t + p))

pub later_lost : LaterLost
unfolding LaterLost begun
later_lost x rows number message ok t same losses all m listed passed slot =
    let s : Settings = x.settings in
    let none = look_up_uncaused x rows number message ok in
    let (h, t', reach) = look_up_open x rows number message none in
    let named : pos t' ≡ pos t = sym reach.0 ∙ same in
    let one : t' ≡ t = cc in
    let due : ℕ = t + delay_of s + 1 in
    let last : x.due ≤ t' + delay_of s = reach.2 in
    let b : Begun s (held x rows message h losses all) x.due (reports x rows losses) = begun x rows message h losses all in
    let c = at_first b in
    let c' = subst (λ (n : ℕ). Reached s (held x rows message h losses all) x.due (reports x rows losses) m.after.rows (n + 1)) slot
    (left_by b m listed passed) in
    let part = arrived_part c c' t (omega arith) (omega arith) in
    let back-part = nothing_more x rows message h losses all c c' t (omega arith) (omega arith) in
    let forth : SameWords s (arrived s rows x.due t) (arrived s m.after.rows due t)
    = λ i v hi hv u f. (f.0, fits_part s _ _ (back-part i v hi hv) u f.1) in
    let back : SameWords s (arrived s m.after.rows due t) (arrived s rows x.due t)
    = λ i v hi hv u f. (f.0, fits_part s _ _ (part i v hi hv) u f.1) in
    let some = (shape s h.settings).lanes_positive in
    let (says, holds) = told_at b.chain m t listed passed slot in
    let (looked, left) = told_by_verdict s rows x.due t in
    let is = look_up_told x rows number message t same none in (
      says ∙ sym (told_same s some rows m.after.rows x.due due t forth back) ∙ sym looked ∙ sym (ap (λ (r : Looked). r.reply) is),
      holds ∙ sym (held_same s some rows m.after.rows x.due due t forth back) ∙ sym left
          ∙ sym (ap (λ (r : Looked). r.message) is),
    )
