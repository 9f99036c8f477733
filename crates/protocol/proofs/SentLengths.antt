-- Along the sender's list the settings and the length of the rows stay. So when a send is accepted, the lengths of what is sent,
-- and that the messages are bytes.
use mathlib.Core.Path.{◌≡◌, refl, sym, ap, ◌∙◌}
use mathlib.Core.Bool.{Bool, true, false, cond, ◌&&◌}
use mathlib.Core.List.{List, [], ◌∷◌, Memᴰ}
use Prim.Native.Nat.{ℕ, zero, suc, ◌-◌, ◌%◌, ◌≤◌, ◌<◌}
use native.Mathlib.Nat.{mod-lt}
use native.Mathlib.Omega.{arith}
use lib.Dec.{T, eqb, lit<}
use lib.ListN.{length, get_or, length-append}
use Rattle.galois.specs.Byte.{Bytes}
use Rattle.code.specs.declared.settings.Settings.{Settings}
use Rattle.code.specs.Settings.{accepted, n_of}
use Rattle.code.proofs.Shape.{Shape, shape}
use Rattle.galois.proofs.ByIndex.{length-table}
use Rattle.protocol.specs.declared.Sender.{Sender}
use Rattle.protocol.specs.Lengths.{last_slot, message_len, body_len, frame_len, sender_len}
use Rattle.protocol.specs.Frame.{mark, five, slot_bytes, header, body_of, frame_of}
use Rattle.protocol.specs.Calls.{Sent, send_of}
use Rattle.protocol.specs.TwoLists.{Send, SendMade, sends}
use Rattle.protocol.specs.Histories.{SentAs, is_accepted, picked_at, message_at}
use Rattle.protocol.specs.Claim.{SendTaken}
use Rattle.protocol.proofs.Rings.{length-put_row}
use Rattle.protocol.proofs.Sending.{SendCase, taken, refused, send_case, send_taken, taken_case}
use Rattle.protocol.proofs.Along.{member_made, at_members}

-- ---- the frame's length

-- a header is 14 bytes
pub length-header : (version : ℕ) (s : Settings) (t : ℕ) → length (header version s t) ≡ 14
unfolding header mark five slot_bytes
length-header version s t = refl

-- a body is n × L
pub length-body : (s : Settings) (rows message : List ℕ) (t : ℕ) → length (body_of s rows message t) ≡ body_len s
unfolding body_of
length-body s rows message t = length-table (body_len s) _

-- and a frame is both
pub length-frame : (version : ℕ) (s : Settings) (rows message : List ℕ) (t : ℕ)
    → length (frame_of version s rows message t) ≡ frame_len s
unfolding frame_of frame_len
length-frame version s rows message t =
    length-append (header version s t) (body_of s rows message t)
    ∙ (omega (arith, length-header version s t, length-body s rows message t))

-- ---- what stays

-- the sender has at least one row
pub some_row : (s : Settings) → Shape s → 0 < n_of s - 1
some_row s h = omega arith

-- the settings are s, and the rows have their length
abbrev pub Kept : Settings → Sender → List ℕ → Type 0
Kept s x rows = (x.settings ≡ s) × (length rows ≡ sender_len s)

-- a send keeps them
pub kept_step : (s : Settings) → Shape s → (x : Sender) (rows : List ℕ) (c : Send) → Kept s x rows
    → Kept s (send_of x rows c.message c.frame).sender (send_of x rows c.message c.frame).rows
unfolding sender_len
kept_step s h x rows c k = go (send_case x rows c.message c.frame)
  where
    go : SendCase x rows c.message c.frame
        → Kept s (send_of x rows c.message c.frame).sender (send_of x rows c.message c.frame).rows
    go (taken can e) =
        let exact : length c.message ≡ message_len s = rw k.0 at can.message_exact in
        rw e (
          k.0,
          rw k.0
              (length-put_row (n_of s - 1) (message_len s) rows c.message k.1 exact (x.due % (n_of s - 1))
              (mod-lt x.due (some_row s h))),
        )
    go (refused d never e) = rw e k

module _ (s : Settings) (ok : T (accepted s)) (x : Sender) (rows : List ℕ) (calls : List Send) (start : Kept s x rows) where
  -- at every member the settings are s, and the rows have their length
  pub kept : (m : SendMade) → Memᴰ m (sends x rows calls) → Kept s m.before m.rows
  kept =
      at_members (Kept s) (λ _. Unit {0}) (λ y rows c _ k. kept_step s (shape s ok) y rows c k) x rows calls start (λ _ _. tt)

  -- when a send is accepted
  pub sends_taken : (m : SendMade) → Memᴰ m (sends x rows calls) → SendTaken s m
  sends_taken m h =
      let k = kept m h in
      let after : m.after ≡ send_of m.before m.rows m.call.message m.call.frame =
      ap (λ (n : SendMade). n.after) (member_made x rows calls m h).0 in
      let iff = send_taken m.before m.rows m.call.message m.call.frame in (
        λ e.
            let can = iff.0 (sym (ap (λ (r : Sent). r.answer) after) ∙ e) in
            (rw k.0 at can.message_exact, rw k.0 at can.frame_exact, can.in_time_lem),
        λ can.
            ap (λ (r : Sent). r.answer) after
            ∙ iff.1
            (record {
              settled = rw k.0 ok;
              rows_exact = rw k.0 k.1;
              message_exact = rw k.0 can.0;
              frame_exact = rw k.0 can.1;
              in_time_lem = can.2;
            }),
      )

  -- the frame that an accepted send hands out
  pub sent_frame : (t : ℕ) (message f : List ℕ) → (a : SentAs (sends x rows calls) t message f)
      → f ≡ frame_of 1 s a.send.rows message t
  sent_frame t message f a =
      let m = a.send in
      let after : m.after ≡ send_of m.before m.rows m.call.message m.call.frame =
      ap (λ (n : SendMade). n.after) (member_made x rows calls m a.listed).0 in
      let was = taken_case m.before m.rows m.call.message m.call.frame
      (sym (ap (λ (r : Sent). r.answer) after) ∙ a.taken) in
      let out : m.after.frame ≡ frame_of 1 m.before.settings m.rows m.call.message m.before.due =
      ap (λ (r : Sent). r.frame) (after ∙ was.1) in
      sym a.out ∙ out ∙ rw ((kept m a.listed).0, a.given, a.slot)

  -- the lengths of a message and its frame, and the last slot
  pub sent_lengths : (t : ℕ) (message f : List ℕ) → SentAs (sends x rows calls) t message f
      → (length message ≡ message_len s) × (length f ≡ frame_len s) × (t ≤ last_slot)
  sent_lengths t message f a =
      let can = (sends_taken a.send a.listed).0 a.taken in (
        sym (ap length a.given) ∙ can.0,
        ap length (sent_frame t message f a) ∙ length-frame 1 s a.send.rows message t,
        rw a.slot at can.2,
      )

-- ---- the messages are bytes

-- an element of a list of bytes is a byte, and so is 0 past its end
pub byte_at : (l : List ℕ) → Bytes l → (j : ℕ) → get_or l j 0 < 256
byte_at [] b j = lit< tt
byte_at (a ∷ l) b zero = b.0
byte_at (a ∷ l) b (suc j) = byte_at l b.1 j

-- a message of the history is made of bytes
pub message_byte : (x : Sender) (rows : List ℕ) (calls : List Send) → ((c : Send) → Memᴰ c calls → Bytes c.message)
    → (t j : ℕ) → get_or (message_at (sends x rows calls) t) j 0 < 256
unfolding sends message_at picked_at
message_byte x rows [] b t j = lit< tt
message_byte x rows (c ∷ cs) b t j =
    let r : Sent = send_of x rows c.message c.frame in
    go (is_accepted r.answer && eqb x.due t) (message_at (sends r.sender r.rows cs) t)
    (message_byte r.sender r.rows cs (λ d h. b d (Memᴰ.tail h)) t j)
  where
    go : (p : Bool) (rest : List ℕ) → get_or rest j 0 < 256 → get_or (cond p c.message rest) j 0 < 256
    go true rest h = byte_at c.message (b c (Memᴰ.head refl)) j
    go false rest h = h
