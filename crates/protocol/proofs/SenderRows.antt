-- The sender's rows hold the last n - 1 messages of the history, and zeros for the slots before slot 0.
use Rattle.std.specs.Prelude.{Ok}
use mathlib.Core.Path.{◌≡◌, refl, sym, ap, ◌∙◌}
use mathlib.Core.Logic.{⊎_elim}
use mathlib.Core.List.{List, [], Memᴰ}
use Prim.Native.Nat.{ℕ, ◌+◌, ◌-◌, ◌*◌, ◌%◌, ◌≤◌, ◌<◌, zero-le}
use native.Mathlib.Nat.{mod-lt}
use native.Mathlib.Omega.{arith}
use lib.Arith.{digits_lt}
use lib.ListN.{length, get_or, replicate, length-replicate, get_or-replicate}
use borrow.Author.Tests.{le-leb, lt-leb}
use Rattle.galois.proofs.Cases.{le_or_lt}
use Rattle.code.specs.declared.settings.Settings.{Settings}
use Rattle.code.specs.Settings.{k_of, n_of}
use Rattle.code.proofs.Shape.{Shape}
use Rattle.protocol.specs.declared.Sender.{Sender}
use Rattle.protocol.specs.Lengths.{message_len, sender_len}
use Rattle.protocol.specs.States.{opened_sender}
use Rattle.protocol.specs.Frame.{remembered}
use Rattle.protocol.specs.Codewords.{source}
use Rattle.protocol.specs.Calls.{Sent, send_of}
use Rattle.protocol.specs.TwoLists.{Send, SendMade, sends}
use Rattle.protocol.proofs.Rings.{since, since_first, since_slot, Ring, ring_step}
use Rattle.protocol.proofs.Sending.{SendCase, taken, refused, send_case}
use Rattle.protocol.proofs.Along.{made_of, at_members}
use Rattle.protocol.proofs.SentLengths.{Kept, kept_step, some_row}

-- the messages of H, counted from n - 1 slots before slot 0, and nothing before slot 0
abbrev messages_of : Settings → (ℕ → List ℕ) → ℕ → List ℕ
messages_of s = since (n_of s - 1) 0 (λ _. [])

-- the settings are s, and the rows hold the messages of H before the slot due
abbrev pub Remembers : Settings → (ℕ → List ℕ) → Sender → List ℕ → Type 0
Remembers s H x rows = Kept s x rows × Ring (n_of s - 1) (message_len s) rows x.due (messages_of s H)

-- an accepted send's message is that of H
abbrev pub Follows : (ℕ → List ℕ) → SendMade → Type 0
Follows H m = m.after.answer ≡ Ok tt → m.call.message ≡ H m.before.due

-- rows of zeros hold what comes before slot 0
pub remembers_start : (s : Settings) (H : ℕ → List ℕ)
    → Remembers s H (opened_sender s) (replicate (sender_len s) 0)
unfolding sender_len
remembers_start s H = (
  (refl, length-replicate (sender_len s) 0),
  λ σ j low high hj.
      get_or-replicate (sender_len s) (σ % (n_of s - 1) * message_len s + j) 0 0 (digits_lt (mod-lt σ (omega arith)) hj)
      ∙ sym (ap (λ (l : List ℕ). get_or l j 0) (since_first (n_of s - 1) 0 (λ _. []) H σ high)),
)

-- a send whose message is that of H keeps it so
pub remembers_step : (s : Settings) (h : Shape s) (H : ℕ → List ℕ) (x : Sender) (rows : List ℕ) (c : Send)
    → Follows H (made_of x rows c) → Remembers s H x rows
    → Remembers s H (send_of x rows c.message c.frame).sender (send_of x rows c.message c.frame).rows
unfolding sender_len
remembers_step s h H x rows c follows k =
    (kept_step s h x rows c k.0, go (send_case x rows c.message c.frame))
  where
    go : SendCase x rows c.message c.frame
        → Ring (n_of s - 1) (message_len s) (send_of x rows c.message c.frame).rows
        (send_of x rows c.message c.frame).sender.due (messages_of s H)
    go (taken can e) =
        let exact : length c.message ≡ message_len s = rw k.0.0 at can.message_exact in
        let given : c.message ≡ H x.due = follows (ap (λ (r : Sent). r.answer) e) in
        rw (e, k.0.0)
        (ring_step (n_of s - 1) (message_len s) rows c.message x.due (messages_of s H) (some_row s h) k.0.1 exact
        (given ∙ sym (since_slot (n_of s - 1) 0 (λ _. []) H x.due zero-le)) k.1)
    go (refused d never e) = rw e k.1

-- at every member the rows hold the messages of H
pub remembers : (s : Settings) (h : Shape s) (H : ℕ → List ℕ) (x : Sender) (rows : List ℕ) (calls : List Send)
    → Remembers s H x rows → ((m : SendMade) → Memᴰ m (sends x rows calls) → Follows H m)
    → (m : SendMade) → Memᴰ m (sends x rows calls) → Remembers s H m.before m.rows
remembers s h H = at_members (Remembers s H) (Follows H) (remembers_step s h H)

-- so what is remembered of symbol r is the source symbol, for the codeword that starts at slot τ - p
pub remembered_source : (s : Settings) (h : Shape s) (H : ℕ → List ℕ) (x : Sender) (rows : List ℕ) → Remembers s H x rows
    → (p v r : ℕ) → r < k_of s → k_of s ≤ p → p < n_of s → v < s.lanes
    → remembered s rows x.due (p - r) r v ≡ source s H x.due p v r
unfolding remembered source message_len
remembered_source s h H x rows k p v r hr from to hv =
    let R : ℕ = n_of s - 1 in
    let σ : ℕ = x.due + R - (p - r) in
    k.1 σ (r * s.lanes + v) (omega arith) (omega arith) (digits_lt hr hv)
    ∙ ⊎_elim
    (λ le.
    ap (λ (l : List ℕ). get_or l (r * s.lanes + v) 0)
    (ap (messages_of s H) (omega arith) ∙ since_slot R 0 (λ _. []) H (x.due + r - p) zero-le)
    ∙ rw (le-leb p (x.due + r) le, source))
    (λ more.
    ap (λ (l : List ℕ). get_or l (r * s.lanes + v) 0) (since_first R 0 (λ _. []) H σ (omega arith))
    ∙ rw (lt-leb p (x.due + r) more, source))
    (le_or_lt p (x.due + r))
