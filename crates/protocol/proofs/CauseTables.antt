-- What a table of causes says: where it finds none, none of its conditions holds; of two, one below the other; the opening's table at
-- either end, and that of every call in a slot.
use Rattle.std.specs.Prelude.{Ok, Err}
use mathlib.Core.Path.{◌≡◌, refl}
use mathlib.Core.Bool.{Bool, true, false, cond, not}
use mathlib.Core.List.{List, [], ◌∷◌, ◌++◌}
use Prim.Native.Nat.{ℕ, ◌≤◌}
use native.Mathlib.Omega.{arith}
use lib.Dec.{T, eqb, eqb→eq}
use lib.ListN.{length}
use borrow.Author.Tests.{eq-eqb, le-ltb, ltb-false}
use Rattle.galois.proofs.Cases.{and_left, and_right}
use Rattle.code.specs.declared.settings.Settings.{Settings}
use Rattle.code.specs.Settings.{accepted}
use Rattle.protocol.specs.declared.Cause.{Cause}
use Rattle.protocol.specs.declared.Cause.TheVariants.{BadSettings, BadLength, PastLastSlot, LateOpening}
use Rattle.protocol.specs.Answers.{Answer}
use Rattle.protocol.specs.Lengths.{last_slot, message_len, frame_len, receiver_len, exactly, exactly_framed}
use Rattle.protocol.specs.Causes.{number_of, check, Row, first_of, open_table, open_receiver_table, slot_table}
use Rattle.protocol.specs.Causes.{open_cause, open_receiver_cause, slot_cause}

-- where a table finds nothing, its first condition fails and the rest finds nothing
pub check_clear : (b : Bool) (c : Cause) (rest : Answer) → check b c rest ≡ Ok tt → (b ≡ false) × (rest ≡ Ok tt)
check_clear true c rest e = let z : ◌≡◌ {A = ℕ} 0 1 = cc in absurd (omega arith)
check_clear false c rest e = (refl, e)

-- the condition that a table has for the cause c
abbrev pub condition : List Row → Cause → Bool
condition [] c = false
condition (r ∷ rs) c = cond (eqb (number_of r.why) (number_of c)) r.holds (condition rs c)

-- where the table finds nothing, none holds
pub none_holds : (rs : List Row) → first_of rs ≡ Ok tt → (c : Cause) → condition rs c ≡ false
none_holds [] e c = refl
none_holds (r ∷ rs) e c =
    let x = check_clear r.holds r.why (first_of rs) e in
    go (eqb (number_of r.why) (number_of c)) x.0 (none_holds rs x.1 c)
  where
    go : (b : Bool) → r.holds ≡ false → condition rs c ≡ false → cond b r.holds (condition rs c) ≡ false
    go true first rest = first
    go false first rest = rest

-- the second answer where the first is accepted
abbrev pub followed_by : Answer → Answer → Answer
followed_by (Ok tt) next = next
followed_by (Err c) next = Err c

-- a table above another is looked at first
pub one_below : (rs ss : List Row) → first_of (rs ++ ss) ≡ followed_by (first_of rs) (first_of ss)
one_below [] ss = refl
one_below (r ∷ rs) ss = go (one_below rs ss) r.holds
  where
    go : first_of (rs ++ ss) ≡ followed_by (first_of rs) (first_of ss) → (b : Bool)
        → check b r.why (first_of (rs ++ ss)) ≡ followed_by (check b r.why (first_of rs)) (first_of ss)
    go rest true = refl
    go rest false = rest

-- where both together find no cause, neither does
pub both_clear : (a b : Answer) → followed_by a b ≡ Ok tt → (a ≡ Ok tt) × (b ≡ Ok tt)
both_clear (Ok tt) b e = (refl, e)
both_clear (Err c) b e = let z : ◌≡◌ {A = ℕ} 0 1 = cc in absurd (omega arith)

-- a test passes exactly where its negation fails
pub passes : (b : Bool) → not b ≡ false → T b
passes true e = tt
passes false e = let z : ◌≡◌ {A = ℕ} 0 1 = cc in omega arith

pub fails : (b : Bool) → T b → not b ≡ false
fails true t = refl
fails false t = absurd t

-- an opening with accepted settings and rows of the exact length meets no cause
pub open_clear : (s : Settings) (size : ℕ) (rows : List ℕ) → T (accepted s) → length rows ≡ size
    → open_cause s size rows ≡ Ok tt
unfolding open_cause
open_clear s size rows ok full = rw (fails (accepted s) ok, eq-eqb (length rows) size full)

-- and only such a one
pub open_exact : (s : Settings) (size : ℕ) (rows : List ℕ) → open_cause s size rows ≡ Ok tt → length rows ≡ size
unfolding open_cause
open_exact s size rows e =
    eqb→eq (length rows) size (passes (eqb (length rows) size) (none_holds (open_table s size rows) e BadLength))

-- the opening of a receiver asks for a slot up to the last one as well
pub record OpensAt (s : Settings) (slot : ℕ) (rows : List ℕ) : Type 0 where
  pub settings : T (accepted s)
  pub exact : length rows ≡ receiver_len s
  pub in_time_lem : slot ≤ last_slot

module _ (s : Settings) (slot : ℕ) (rows : List ℕ) where
  pub receiver_clear : OpensAt s slot rows → open_receiver_cause s slot rows ≡ Ok tt
  unfolding open_receiver_cause
  receiver_clear h =
      rw (fails (accepted s) h.settings, eq-eqb (length rows) (receiver_len s) h.exact, le-ltb last_slot slot h.in_time_lem)

  pub receiver_open : open_receiver_cause s slot rows ≡ Ok tt → OpensAt s slot rows
  unfolding open_receiver_cause
  receiver_open e =
      let none = none_holds (open_receiver_table s slot rows) e in
      record {
        settings = passes (accepted s) (none BadSettings);
        exact = eqb→eq (length rows) (receiver_len s) (passes (eqb (length rows) (receiver_len s)) (none BadLength));
        in_time_lem = ltb-false last_slot slot (none LateOpening);
      }

-- ---- a call in a slot

-- it meets none of the causes 1, 2 and 3
pub record InSlot (s : Settings) (exact : Bool) (due : ℕ) : Type 0 where
  pub settings : T (accepted s)
  pub lengths : T exact
  pub in_time_lem : due ≤ last_slot

module _ (s : Settings) (exact : Bool) (due : ℕ) where
  pub slot_open : slot_cause s exact due ≡ Ok tt → InSlot s exact due
  unfolding slot_cause
  slot_open e =
      let none = none_holds (slot_table s exact due) e in
      record {
        settings = passes (accepted s) (none BadSettings);
        lengths = passes exact (none BadLength);
        in_time_lem = ltb-false last_slot due (none PastLastSlot);
      }

  pub slot_clear : InSlot s exact due → slot_cause s exact due ≡ Ok tt
  unfolding slot_cause
  slot_clear h = rw (fails (accepted s) h.settings, fails exact h.lengths, le-ltb last_slot due h.in_time_lem)

-- ---- lengths

module _ (s : Settings) (size rows message : ℕ) where
  pub exact_lengths : T (exactly s size rows message) → (rows ≡ size) × (message ≡ message_len s)
  exact_lengths t =
      let a : Bool = eqb rows size in
      let b : Bool = eqb message (message_len s) in
      (eqb→eq rows size (and_left a b t), eqb→eq message (message_len s) (and_right a b t))

  pub lengths_exact : rows ≡ size → message ≡ message_len s → T (exactly s size rows message)
  lengths_exact full whole = rw (eq-eqb rows size full, eq-eqb message (message_len s) whole) tt

  module _ (frame : ℕ) where
    pub framed_lengths : T (exactly_framed s size rows message frame) → (rows ≡ size) × (message ≡ message_len s) × (frame ≡ frame_len s)
    framed_lengths t =
        let a : Bool = exactly s size rows message in
        let b : Bool = eqb frame (frame_len s) in
        let front = exact_lengths (and_left a b t) in
        (front.0, front.1, eqb→eq frame (frame_len s) (and_right a b t))

    pub lengths_framed : rows ≡ size → message ≡ message_len s → frame ≡ frame_len s → T (exactly_framed s size rows message frame)
    lengths_framed full whole framed =
        rw (eq-eqb rows size full, eq-eqb message (message_len s) whole, eq-eqb frame (frame_len s) framed) tt
