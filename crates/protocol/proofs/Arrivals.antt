-- The rows tell the truth: what arrived of each codeword in the slots reported so far is what was heard of it.
use mathlib.Core.Path.{◌≡◌, refl, sym, ap, ◌∙◌, subst, subst⁻¹}
use mathlib.Core.Bool.{Bool, false, true≢false}
use mathlib.Core.List.{List, ◌∷◌}
use mathlib.Core.Logic.{◌↔◌, ⊎_elim}
use Prim.Native.Nat.{ℕ, suc, ◌+◌, ◌-◌, ◌*◌, ◌≤◌, ◌<◌}
use native.Mathlib.Nat.{mul-le-mul_right, suc-mul}
use native.Mathlib.Omega.{arith}
use lib.Dec.{T, eqb, eqb→eq, eqb_refl, ltb→lt, lt→ltb}
use lib.ListN.{get_or, drop, replicate, length-replicate, get_or-replicate, get_or-eq_default}
use lib.Seq.{get_or-drop}
use borrow.Author.Tests.{le-leb}
use Rattle.galois.proofs.Cases.{and_left, and_right, both_pass, le_or_lt}
use Rattle.code.specs.declared.settings.Settings.{Settings}
use Rattle.code.specs.Settings.{delay_of, k_of, n_of}
use Rattle.repair.specs.Fair.{lost_position}
use Rattle.protocol.specs.Lengths.{body_len, row_len}
use Rattle.protocol.specs.Verdict.{row_at, arrived, reported_at}
use Rattle.protocol.specs.Calls.{received_zeros, row_before}
use Rattle.protocol.specs.TwoLists.{heard, ReportMade, row_of}
use Rattle.protocol.specs.Histories.{lost_at, lost_since}
use Rattle.protocol.specs.Meaning.{Came}
use Rattle.protocol.proofs.Receipts.{due_from}
use Rattle.protocol.proofs.ReceivedRows.{Reached}
use Rattle.protocol.proofs.SlotRows.{slot_row, row_says, flag_says, row_reported, row_early, Became, became}

-- position p of lane v stands in a row
in_row : (s : Settings) (p v : ℕ) → p < n_of s → v < s.lanes → 1 + (p * s.lanes + v) < row_len s
unfolding row_len body_len
in_row s p v hp hv = omega (arith, mul-le-mul_right s.lanes hp, suc-mul p s.lanes)

one-add : (q : ℕ) → 1 + q ≡ suc q
one-add q = omega arith

-- zeros are 0, and 0 is read past them
zero_at : (m q : ℕ) → ◌≡◌ {A = ℕ} (get_or (replicate m 0) q 0) 0
zero_at m q =
    ⊎_elim (λ past. get_or-eq_default (replicate m 0) 0 (omega (arith, length-replicate {A = ℕ} m 0)))
    (λ inside. get_or-replicate m q 0 0 inside) (le_or_lt m q)

-- a position from slot 0 on was lost as its slot was
position_late : (lost : ℕ → Bool) (t i p : ℕ) → i ≤ t + p → lost_position lost t i p ≡ lost (t + p - i)
unfolding lost_position
position_late lost t i p h = rw (le-leb i (t + p) h)

-- the slot of a position was reported exactly if it is below the slot due
pub below_due : (due t i p : ℕ) → T (reported_at due t i p) ↔ (t + p < due + i)
unfolding reported_at
below_due due t i p = (λ k. omega (arith, ltb→lt (t + p) _ k), λ h. lt→ltb (t + p) _ (omega arith))

-- the byte of lane v at position p, in a row of received zeros and in that of a frame
early_byte : (s : Settings) (q : ℕ) → get_or (received_zeros s) (1 + q) 0 ≡ 0
unfolding received_zeros
early_byte s q = ap (λ (j : ℕ). get_or (1 ∷ replicate (body_len s) 0) j 0) (one-add q) ∙ zero_at (body_len s) q

heard_byte : (f : List ℕ) (q : ℕ) → get_or (1 ∷ drop 14 f) (1 + q) 0 ≡ get_or f (14 + q) 0
heard_byte f q = ap (λ (j : ℕ). get_or (1 ∷ drop 14 f) j 0) (one-add q) ∙ get_or-drop 14 f q 0

-- ---- by what became of its slot

module _ {s : Settings} {d : ℕ} {told : List ReportMade} {t i p : ℕ} where
  -- a slot that was not lost has a row that says received
  kept_flag : {l : List ℕ} → Became s d told t i p l → lost_position (lost_since d (lost_at told)) t i p ≡ false → get_or l 0 0 ≡ 1
  unfolding received_zeros
  kept_flag (Became.early h) kept = refl
  kept_flag (Became.lost late gone) kept = absurd (true≢false (sym (position_late (lost_since d (lost_at told)) t i p late ∙ gone) ∙ kept))
  kept_flag (Became.heard f late h) kept = refl

  -- a row that says received holds what came
  flag_came : (v : ℕ) {l : List ℕ} → Became s d told t i p l → get_or l 0 0 ≡ 1 → Came s told t i v p (get_or l (1 + (p * s.lanes + v)) 0)
  flag_came v (Became.early h) one = subst⁻¹ (Came s told t i v p) (early_byte s (p * s.lanes + v)) (Came.early h)
  flag_came v (Became.lost late gone) one = absurd (let z : ◌≡◌ {A = ℕ} 0 1 = sym (zero_at (row_len s) 0) ∙ one in omega arith)
  flag_came v (Became.heard f late h) one =
      subst⁻¹ (Came s told t i v p) (heard_byte f (p * s.lanes + v)) (Came.heard f late h)

-- ---- what the rows say, while message t can be told, of the codeword of lane v that starts at slot t - i

module _ {s : Settings} {first : ℕ → List ℕ} {d : ℕ} {told : List ReportMade} {rows : List ℕ} {due : ℕ}
    (c : Reached s first d told rows due) (t : ℕ) (to : due ≤ t + delay_of s + 1) (i p v : ℕ) (hi : i < k_of s) where
  -- a position is known exactly if its slot was reported and its row says received
  pub known_flag_lem : T ((arrived s rows due t i v).known p) ↔ ((t + p < due + i) × (get_or (slot_row s first d told t i p) 0 0 ≡ 1))
  unfolding arrived
  known_flag_lem =
      let one : Bool = eqb (get_or rows (row_at s t i p) 0) 1 in (
        λ k.
            let now : t + p < due + i = (below_due due t i p).0 (and_left (reported_at due t i p) one k) in
            let flag : get_or rows (row_at s t i p) 0 ≡ 1
            = eqb→eq (get_or rows (row_at s t i p) 0) 1 (and_right (reported_at due t i p) one k) in
            (now, sym (flag_says c t i p hi to now) ∙ flag),
        λ (now, flag).
            both_pass (reported_at due t i p) one ((below_due due t i p).1 now) (rw (flag_says c t i p hi to now ∙ flag) (eqb_refl 1)),
      )

  -- and its byte stands in that row
  pub byte_says : p < n_of s → v < s.lanes → t + p < due + i
      → (arrived s rows due t i v).byte p ≡ get_or (slot_row s first d told t i p) (1 + (p * s.lanes + v)) 0
  unfolding arrived
  byte_says hp hv now = row_says c t i p hi to now (1 + (p * s.lanes + v)) (in_row s p v hp hv)

module _ {s : Settings} {d : ℕ} {told : List ReportMade} {rows : List ℕ} {due : ℕ} (c : Reached s (row_before s) d told rows due)
    (t : ℕ) (to : due ≤ t + delay_of s + 1) (i p v : ℕ) (hi : i < k_of s) where
  -- the row of position p
  abbrev row : List ℕ
  row = slot_row s (row_before s) d told t i p

  -- a position whose slot was reported and not lost is known
  pub known_if : t + p < due + i → lost_position (lost_since d (lost_at told)) t i p ≡ false → T ((arrived s rows due t i v).known p)
  known_if now kept = (known_flag_lem c t to i p v hi).1 (now, kept_flag (became c t i p hi now) kept)

  -- what came stands in its row
  came_row : (b : ℕ) → Came s told t i v p b → (get_or row 0 0 ≡ 1) × (get_or row (1 + (p * s.lanes + v)) 0 ≡ b)
  unfolding received_zeros row_of
  came_row b (Came.early h) = rw (row_early c t i p hi h) (refl, early_byte s (p * s.lanes + v))
  came_row b (Came.heard f late h) =
      let a = h.by in
      let from : d + i ≤ t + p = omega (arith, due_from c.begun.chain a.report a.listed, a.slot) in
      rw (row_reported c t i p hi from (heard f h.message) a) (refl, heard_byte f (p * s.lanes + v))

  -- a position is known with a byte exactly if its slot was reported and brought it
  pub known_came : p < n_of s → v < s.lanes → (b : ℕ)
      → (T ((arrived s rows due t i v).known p) × ((arrived s rows due t i v).byte p ≡ b)) ↔ ((t + p < due + i) × Came s told t i v p b)
  known_came hp hv b = (
    λ (k, e).
        let (now, flag) = (known_flag_lem c t to i p v hi).0 k in
        (now, subst (Came s told t i v p) (sym (byte_says c t to i p v hi hp hv now) ∙ e) (flag_came v (became c t i p hi now) flag)),
    λ (now, from).
        let (flag, e) = came_row b from in
        ((known_flag_lem c t to i p v hi).1 (now, flag), byte_says c t to i p v hi hp hv now ∙ e),
  )
