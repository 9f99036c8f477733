-- Where the row of slot t + p - i stands while message t can be told, and what it holds.
use mathlib.Core.Path.{◌≡◌, ap, ◌∙◌, subst⁻¹}
use mathlib.Core.Bool.{true}
use mathlib.Core.List.{List, ◌∷◌}
use mathlib.Core.Logic.{⊎_elim}
use Prim.Native.Nat.{ℕ, ◌+◌, ◌-◌, ◌≤◌, ◌<◌}
use native.Mathlib.Omega.{arith}
use lib.ListN.{get_or, drop, replicate}
use borrow.Author.Tests.{lt-ltb, le-ltb}
use Rattle.galois.proofs.Cases.{le_or_lt}
use Rattle.code.specs.declared.settings.Settings.{Settings}
use Rattle.code.specs.Settings.{delay_of, k_of}
use Rattle.protocol.specs.Lengths.{row_len, row_count}
use Rattle.protocol.specs.Verdict.{row_at}
use Rattle.protocol.specs.Calls.{received_zeros, row_before}
use Rattle.protocol.specs.TwoLists.{Report, ReportMade, row_of}
use Rattle.protocol.specs.Histories.{ReportedAs, Heard, lost_at, lost_since}
use Rattle.protocol.proofs.Rings.{since_first, since_slot}
use Rattle.protocol.proofs.SlotReports.{call_as, lost_before, lost_from, lost_as}
use Rattle.protocol.proofs.ReceivedRows.{row_in, row_of_slot, history, Reached}

-- the row of slot t + p - i
abbrev pub slot_row : Settings → (ℕ → List ℕ) → ℕ → List ReportMade → ℕ → ℕ → ℕ → List ℕ
slot_row s first d told t i p = history s first d told (t + p + row_count s - i)

module _ {s : Settings} {first : ℕ → List ℕ} {d : ℕ} {told : List ReportMade} {rows : List ℕ} {due : ℕ}
    (c : Reached s first d told rows due) (t i p : ℕ) (hi : i < k_of s) where
  -- ---- where it stands, once it is reported and while message t can be told

  pub row_says : due ≤ t + delay_of s + 1 → t + p < due + i → (j : ℕ) → j < row_len s
      → get_or rows (row_at s t i p + j) 0 ≡ get_or (slot_row s first d told t i p) j 0
  unfolding row_at row_count
  row_says to now j hj = c.ring (t + p + row_count s - i) j (omega arith) (omega arith) hj

  -- its first byte
  pub flag_says : due ≤ t + delay_of s + 1 → t + p < due + i
      → get_or rows (row_at s t i p) 0 ≡ get_or (slot_row s first d told t i p) 0 0
  unfolding row_len
  flag_says to now = ap (λ (m : ℕ). get_or rows m 0) (omega arith) ∙ row_says to now 0 (omega arith)

  -- ---- what it is

  -- before the first slot, as the rows began
  pub row_first : t + p < d + i → slot_row s first d told t i p ≡ first (t + p + row_count s - i)
  unfolding row_count
  row_first h = since_first (row_count s) d first (row_of_slot s told) (t + p + row_count s - i) (omega arith)

  -- from the first slot on, that of the slot's report
  pub row_reported : d + i ≤ t + p → (call : Report) → ReportedAs told (t + p - i) call → slot_row s first d told t i p ≡ row_of s call
  unfolding row_of_slot
  row_reported h call a =
      ap (history s first d told) (omega arith)
      ∙ since_slot (row_count s) d first (row_of_slot s told) (t + p - i) (omega arith)
      ∙ ap (row_in s) (call_as c.begun.chain (t + p - i) call a)

-- ---- what became of a slot

-- the row of slot t + p - i, of a receiver that began at slot d: the slot is before slot 0, or lost, or was heard
pub data Became (s : Settings) (d : ℕ) (told : List ReportMade) (t i p : ℕ) : List ℕ → Type 0 where
  early : t + p < i → Became s d told t i p (received_zeros s)
  lost : i ≤ t + p → lost_since d (lost_at told) (t + p - i) ≡ true → Became s d told t i p (replicate (row_len s) 0)
  heard : (f : List ℕ) → i ≤ t + p → Heard told (t + p - i) f → Became s d told t i p (1 ∷ drop 14 f)

module _ {s : Settings} {d : ℕ} {told : List ReportMade} {rows : List ℕ} {due : ℕ} (c : Reached s (row_before s) d told rows due)
    (t i p : ℕ) (hi : i < k_of s) where
  pub row_early : t + p < i → slot_row s (row_before s) d told t i p ≡ received_zeros s
  unfolding row_before row_count
  row_early h = row_first c t i p hi (omega arith) ∙ rw (lt-ltb (t + p + row_count s - i) (row_count s) (omega arith))

  row_missed : i ≤ t + p → t + p < d + i → slot_row s (row_before s) d told t i p ≡ replicate (row_len s) 0
  unfolding row_before row_count
  row_missed h before = row_first c t i p hi before ∙ rw (le-ltb (t + p + row_count s - i) (row_count s) (omega arith))

  by_report : d + i ≤ t + p → (call : Report) → ReportedAs told (t + p - i) call → Became s d told t i p (row_of s call)
  unfolding row_of
  by_report h (Report.heard f m) a = Became.heard f (omega arith) record { message = m; by = a }
  by_report h (Report.missed m) a =
      Became.lost (omega arith)
      (lost_from d (lost_at told) (t + p - i) (omega arith) ∙ lost_as c.begun.chain (t + p - i) (Report.missed m) a)

  -- each slot that was reported, or is before the first one, is one of these
  pub became : t + p < due + i → Became s d told t i p (slot_row s (row_before s) d told t i p)
  became now =
      ⊎_elim
      (λ from.
      let (call, a) = c.reported (t + p - i) (omega arith) (omega arith) in
      subst⁻¹ (Became s d told t i p) (row_reported c t i p hi from call a) (by_report from call a))
      (λ before.
      ⊎_elim
      (λ late.
      subst⁻¹ (Became s d told t i p) (row_missed late before)
      (Became.lost late (lost_before d (lost_at told) (t + p - i) (omega arith))))
      (λ soon. subst⁻¹ (Became s d told t i p) (row_early soon) (Became.early soon)) (le_or_lt i (t + p)))
      (le_or_lt (d + i) (t + p))
