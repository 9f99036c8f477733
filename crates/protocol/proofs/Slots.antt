-- The slots of the sender's list: they are sent in order, none twice and none left out, and each has its message.
use Rattle.std.specs.Prelude.{Ok}
use mathlib.Core.Path.{◌≡◌, refl, sym, ap, ap₂, ◌∙◌}
use mathlib.Core.Bool.{Bool, false, cond, ◌&&◌, and-false}
use mathlib.Core.Logic.{⊎_elim}
use mathlib.Core.List.Memᴰ
use mathlib.Core.List.{List, [], ◌∷◌, Memᴰ}
use Prim.Native.Nat.{ℕ, ◌+◌, ◌≤◌}
use native.Mathlib.Nat.{le_refl, eq-or-lt_of_le}
use native.Mathlib.Omega.{arith}
use lib.Dec.{eqb}
use borrow.Author.Tests.{eq-eqb, ne_eqb}
use Rattle.protocol.specs.declared.Sender.{Sender}
use Rattle.protocol.specs.Calls.{Sent, send_of}
use Rattle.protocol.specs.TwoLists.{Send, SendMade, sends}
use Rattle.protocol.specs.Histories.{SentAs, is_accepted, picked_at, message_at}
use Rattle.protocol.proofs.Sending.{SendCase, taken, refused, send_case}
use Rattle.protocol.proofs.Along.{made_of, at_members}

-- ---- the slot due never falls

-- a send leaves the slot due or moves it on
due_grows : (x : Sender) (rows : List ℕ) (c : Send) → x.due ≤ (send_of x rows c.message c.frame).sender.due
due_grows x rows c = go (send_case x rows c.message c.frame)
  where
    go : SendCase x rows c.message c.frame → x.due ≤ (send_of x rows c.message c.frame).sender.due
    go (taken h e) = rw e (omega arith)
    go (refused d never e) = rw e (le_refl x.due)

-- so no member's slot is before the first one's
pub due_from : (x : Sender) (rows : List ℕ) (calls : List Send) (m : SendMade) → Memᴰ m (sends x rows calls)
    → x.due ≤ m.before.due
due_from x rows calls m h =
    at_members (λ y _. x.due ≤ y.due) (λ _. Unit {0}) (λ y rows c _ le. omega (arith, due_grows y rows c)) x rows calls
    (le_refl x.due) (λ _ _. tt) m h

-- ---- one accepted send for a slot

-- the test for the accepted send of slot t
abbrev is_send_of : ℕ → SendMade → Bool
is_send_of t m = is_accepted m.after.answer && eqb m.before.due t

-- the first send is not that of a later member
passed_over : (x : Sender) (rows : List ℕ) (c : Send) (cs : List Send) (m : SendMade)
    → Memᴰ m (sends (send_of x rows c.message c.frame).sender (send_of x rows c.message c.frame).rows cs)
    → is_send_of m.before.due (made_of x rows c) ≡ false
passed_over x rows c cs m later = go (send_case x rows c.message c.frame)
  where
    go : SendCase x rows c.message c.frame → is_send_of m.before.due (made_of x rows c) ≡ false
    go (taken h e) =
        let moved : (send_of x rows c.message c.frame).sender.due ≡ x.due + 1 = ap (λ (r : Sent). r.sender.due) e in
        let after : x.due + 1 ≤ m.before.due = rw moved at (due_from _ _ cs m later) in
        ap (λ (b : Bool). is_accepted (send_of x rows c.message c.frame).answer && b)
        (ne_eqb x.due m.before.due (λ same. omega arith))
        ∙ and-false (is_accepted (send_of x rows c.message c.frame).answer)
    go (refused d never e) =
        ap (λ (r : Sent). is_accepted r.answer && eqb x.due m.before.due) e

-- what is picked at an accepted member's slot is picked from that member
picked : (g : SendMade → List ℕ) (x : Sender) (rows : List ℕ) (calls : List Send) (m : SendMade)
    → Memᴰ m (sends x rows calls) → m.after.answer ≡ Ok tt
    → picked_at g (sends x rows calls) m.before.due ≡ g m
unfolding sends picked_at
picked g x rows [] m h ok = absurd (Memᴰ.not-nil h)
picked g x rows (c ∷ cs) m h ok =
    let r : Sent = send_of x rows c.message c.frame in
    let rest : List SendMade = sends r.sender r.rows cs in
    ⊎_elim
    (λ e.
    let answered : r.answer ≡ Ok tt = sym (ap (λ (n : SendMade). n.after.answer) e) ∙ ok in
    ap (λ (b : Bool). cond b (g (made_of x rows c)) (picked_at g rest m.before.due))
    (ap₂ ◌&&◌ (ap is_accepted answered) (eq-eqb x.due m.before.due (sym (ap (λ (n : SendMade). n.before.due) e))))
    ∙ ap g (sym e))
    (λ later.
    ap (λ (b : Bool). cond b (g (made_of x rows c)) (picked_at g rest m.before.due)) (passed_over x rows c cs m later)
    ∙ picked g r.sender r.rows cs m later ok)
    (Memᴰ.cases_cons h)

module _ (x : Sender) (rows : List ℕ) (calls : List Send) where
  -- what is picked at a slot, of the send that it was sent as
  picked_as : (g : SendMade → List ℕ) (t : ℕ) (message frame : List ℕ)
      → (a : SentAs (sends x rows calls) t message frame) → picked_at g (sends x rows calls) t ≡ g a.send
  picked_as g t message frame a =
      ap (picked_at g (sends x rows calls)) (sym a.slot) ∙ picked g x rows calls a.send a.listed a.taken

  -- the message at a slot is the one that was sent in it
  pub message_at_lem : (t : ℕ) (message frame : List ℕ) → SentAs (sends x rows calls) t message frame
      → message_at (sends x rows calls) t ≡ message
  unfolding message_at
  message_at_lem t message frame a = picked_as (λ m. m.call.message) t message frame a ∙ a.given

  -- a slot is sent once
  pub once : (t : ℕ) (m₁ f₁ m₂ f₂ : List ℕ) → SentAs (sends x rows calls) t m₁ f₁ → SentAs (sends x rows calls) t m₂ f₂
      → (m₁ ≡ m₂) × (f₁ ≡ f₂)
  once t m₁ f₁ m₂ f₂ a b = (
    sym (message_at_lem t m₁ f₁ a) ∙ message_at_lem t m₂ f₂ b,
    sym (picked_as (λ m. m.after.frame) t m₁ f₁ a ∙ a.out) ∙ picked_as (λ m. m.after.frame) t m₂ f₂ b ∙ b.out,
  )

-- ---- no slot is left out

-- an accepted member of the list, for slot t
abbrev SlotSent : List SendMade → ℕ → Type 0
SlotSent made t = (m : SendMade) × Memᴰ m made × (m.after.answer ≡ Ok tt) × (m.before.due ≡ t)

-- a list with one more send before it
longer : (m : SendMade) (ms : List SendMade) (t : ℕ) → SlotSent ms t → SlotSent (m ∷ ms) t
longer m ms t found = (found.0, Memᴰ.tail found.1, found.2, found.3)

-- the slots from the first sender's to an accepted member's are sent
slot_sent : (x : Sender) (rows : List ℕ) (calls : List Send) (t : ℕ) (m : SendMade) → Memᴰ m (sends x rows calls)
    → m.after.answer ≡ Ok tt → x.due ≤ t → t ≤ m.before.due → SlotSent (sends x rows calls) t
unfolding sends
slot_sent x rows [] t m h ok from to = absurd (Memᴰ.not-nil h)
slot_sent x rows (c ∷ cs) t m h ok from to =
    let r : Sent = send_of x rows c.message c.frame in
    let rest : List SendMade = sends r.sender r.rows cs in
    ⊎_elim
    (λ e.
    let first : m.before.due ≡ x.due = ap (λ (n : SendMade). n.before.due) e in
    (made_of x rows c, Memᴰ.head refl, sym (ap (λ (n : SendMade). n.after.answer) e) ∙ ok, omega arith))
    (λ later.
    beyond (λ from. longer (made_of x rows c) rest t (slot_sent r.sender r.rows cs t m later ok from to))
    (send_case x rows c.message c.frame))
    (Memᴰ.cases_cons h)
  where
    beyond : ((send_of x rows c.message c.frame).sender.due ≤ t → SlotSent (sends x rows (c ∷ cs)) t)
        → SendCase x rows c.message c.frame → SlotSent (sends x rows (c ∷ cs)) t
    beyond go (taken h e) =
        ⊎_elim (λ same. (made_of x rows c, Memᴰ.head refl, ap (λ (r : Sent). r.answer) e, same))
        (λ less. go (omega (arith, ap (λ (r : Sent). r.sender.due) e))) (eq-or-lt_of_le from)
    beyond go (refused d never e) = go (omega (arith, ap (λ (r : Sent). r.sender.due) e))

-- slots are sent in order from the first sender's
pub sent_before : (x : Sender) (rows : List ℕ) (calls : List Send) (t τ : ℕ) (m f : List ℕ)
    → SentAs (sends x rows calls) τ m f → x.due ≤ t → t ≤ τ
    → (message : List ℕ) × (frame : List ℕ) × SentAs (sends x rows calls) t message frame
sent_before x rows calls t τ m f a from to =
    let found = slot_sent x rows calls t a.send a.listed a.taken from (omega (arith, a.slot)) in (
      found.0.call.message,
      found.0.after.frame,
      record { send = found.0; listed = found.1; taken = found.2; slot = found.3; given = refl; out = refl },
    )
