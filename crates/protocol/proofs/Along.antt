-- What holds along the sender's list.
use mathlib.Core.Path.{◌≡◌, refl, ap, subst⁻¹}
use mathlib.Core.Logic.{⊎_elim}
use mathlib.Core.List.Memᴰ
use mathlib.Core.List.{List, [], ◌∷◌, Memᴰ}
use Prim.Native.Nat.{ℕ}
use Rattle.protocol.specs.declared.Sender.{Sender}
use Rattle.protocol.specs.Calls.{Sent, send_of}
use Rattle.protocol.specs.TwoLists.{Send, SendMade, sends}

-- the send of c by a sender x with these rows
abbrev pub made_of : Sender → List ℕ → Send → SendMade
made_of x rows c = record { before = x; rows = rows; call = c; after = send_of x rows c.message c.frame }

-- a member of the list is what its own sender, rows and call make, and its call is one of the calls
pub member_made : (x : Sender) (rows : List ℕ) (calls : List Send) (m : SendMade) → Memᴰ m (sends x rows calls)
    → (m ≡ made_of m.before m.rows m.call) × Memᴰ m.call calls
unfolding sends
member_made x rows [] m h = absurd (Memᴰ.not-nil h)
member_made x rows (c ∷ cs) m h =
    let r : Sent = send_of x rows c.message c.frame in
    ⊎_elim
    (λ e. (
      subst⁻¹ (λ (n : SendMade). n ≡ made_of n.before n.rows n.call) e refl,
      Memᴰ.head (ap (λ (n : SendMade). n.call) e),
    ))
    (λ later.
    let rest = member_made r.sender r.rows cs m later in
    (rest.0, Memᴰ.tail rest.1))
    (Memᴰ.cases_cons h)

-- what holds of the first sender and rows, and stays through each send that is Good, holds at every member
module _ (Inv : Sender → List ℕ → Type 0) (Good : SendMade → Type 0)
    (step : (x : Sender) (rows : List ℕ) (c : Send) → Good (made_of x rows c) → Inv x rows
    → Inv (send_of x rows c.message c.frame).sender (send_of x rows c.message c.frame).rows) where
  pub at_members : (x : Sender) (rows : List ℕ) (calls : List Send) → Inv x rows
      → ((m : SendMade) → Memᴰ m (sends x rows calls) → Good m)
      → (m : SendMade) → Memᴰ m (sends x rows calls) → Inv m.before m.rows
  unfolding sends
  at_members x rows [] start good m h = absurd (Memᴰ.not-nil h)
  at_members x rows (c ∷ cs) start good m h =
      let r : Sent = send_of x rows c.message c.frame in
      ⊎_elim (λ e. subst⁻¹ (λ (n : SendMade). Inv n.before n.rows) e start)
      (λ later.
      at_members r.sender r.rows cs (step x rows c (good (made_of x rows c) (Memᴰ.head refl)) start)
      (λ n hn. good n (Memᴰ.tail hn)) m later)
      (Memᴰ.cases_cons h)
