-- A message may be told before its last slot is reported. What arrived by then is part of what arrived later, so a message that is
-- whole stays whole with the same bytes, as long as some word fits.
use Rattle.std.specs.Prelude.{Ok}
use mathlib.Core.Path.{◌≡◌, refl, sym, ◌∙◌}
use mathlib.Core.Bool.{Bool}
use mathlib.Core.List.{List}
use Prim.Native.Nat.{ℕ, ◌+◌, ◌*◌, ◌≤◌, ◌<◌}
use native.Mathlib.Omega.{arith}
use lib.Dec.{eqb}
use lib.ListN.{get_or}
use Rattle.galois.proofs.Cases.{and_left, and_right, both_pass}
use Rattle.code.specs.declared.settings.Settings.{Settings}
use Rattle.code.specs.Settings.{delay_of, k_of}
use Rattle.code.specs.Fitting.{Arrived}
use Rattle.elimination.proofs.ValueLaws.{Part, fits_part}
use Rattle.protocol.specs.declared.Told.TheVariants.{Whole}
use Rattle.protocol.specs.Verdict.{row_at, reported_at, arrived, verdict, buffer_of}
use Rattle.protocol.specs.TwoLists.{ReportMade}
use Rattle.protocol.specs.Meaning.{Fitting, Share, AllShare}
use Rattle.protocol.proofs.VerdictMeaning.{shares_whole, whole_bytes, whole_list, buffer_length}
use Rattle.protocol.proofs.ReceivedRows.{Reached}
use Rattle.protocol.proofs.Arrivals.{below_due, known_flag_lem, byte_says}

-- a byte that the fitting words share stays shared when more arrives, as long as some word fits
pub share_stays : (s : Settings) (a b : Arrived) → Part s a b → (p byte : ℕ) → Share s (Fitting s a) p byte
    → (u : ℕ → ℕ) → Fitting s b u → Share s (Fitting s b) p byte
share_stays s a b part p byte x u f = record {
  word = u;
  is_such = f;
  all_have = λ w g. x.all_have w (g.0, fits_part s a b part w g.1);
}

-- by the same rows, what arrived below one slot arrived below a later one
pub arrived_below : (s : Settings) (rows : List ℕ) (due due' t i v : ℕ) → due ≤ due'
    → Part s (arrived s rows due t i v) (arrived s rows due' t i v)
unfolding arrived
arrived_below s rows due due' t i v later p hp known =
    let one : Bool = eqb (get_or rows (row_at s t i p) 0) 1 in
    let now : t + p < due + i = (below_due due t i p).0 (and_left (reported_at due t i p) one known) in (
      both_pass (reported_at due' t i p) one ((below_due due' t i p).1 (omega arith)) (and_right (reported_at due t i p) one known),
      refl,
    )

-- two points of the same reports, the first no later, while message t can be told
module _ {s : Settings} {first : ℕ → List ℕ} {d : ℕ} {told : List ReportMade} {rows rows' : List ℕ} {due due' : ℕ}
    (c : Reached s first d told rows due) (c' : Reached s first d told rows' due') (t : ℕ) (later : due ≤ due')
    (to : due' ≤ t + delay_of s + 1) where
  -- what arrived by the first arrived by the second
  pub arrived_part : (i v : ℕ) → i < k_of s → v < s.lanes → Part s (arrived s rows due t i v) (arrived s rows' due' t i v)
  arrived_part i v hi hv p hp known =
      let early : due ≤ t + delay_of s + 1 = omega arith in
      let (now, flag) = (known_flag_lem c t early i p v hi).0 known in
      let then : t + p < due' + i = omega arith in (
        (known_flag_lem c' t to i p v hi).1 (then, flag),
        byte_says c t early i p v hi hp hv now
            ∙ sym (byte_says c' t to i p v hi hp hv then),
      )

  -- so whole stays whole, with the same bytes, where some word still fits each codeword
  pub whole_stays : 0 < s.lanes → ((i v : ℕ) → i < k_of s → v < s.lanes → (u : ℕ → ℕ) × Fitting s (arrived s rows' due' t i v) u)
      → verdict s rows due t ≡ Ok Whole
      → (verdict s rows' due' t ≡ Ok Whole)
      × (buffer_of s rows' due' t (verdict s rows' due' t) ≡ buffer_of s rows due t (verdict s rows due t))
  whole_stays some fitting whole =
      let out : List ℕ = buffer_of s rows due t (verdict s rows due t) in
      let all : AllShare s (arrived s rows' due' t) (λ i v. get_or out (i * s.lanes + v) 0)
      = λ i v hi hv.
      let (u, f) = fitting i v hi hv in
      share_stays s (arrived s rows due t i v) (arrived s rows' due' t i v) (arrived_part i v hi hv) i
      (get_or out (i * s.lanes + v) 0) (whole_bytes s rows due t whole i v hi hv) u f in (
        shares_whole s rows' due' t (λ i v. get_or out (i * s.lanes + v) 0) all,
        whole_list s rows' due' t some out (buffer_length s rows due t (verdict s rows due t)) all,
      )
