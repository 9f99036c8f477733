-- The sender's list from an accepted opening: when a send is accepted, what each slot sends, and the truth of the frames.
use mathlib.Core.Path.{◌≡◌, refl, sym, ap, ◌∙◌}
use mathlib.Core.List.{List, Memᴰ}
use Prim.Native.Nat.{ℕ, ◌+◌, ◌*◌, ◌≤◌, ◌<◌, zero-le}
use lib.Dec.{T}
use lib.ListN.{length, get_or, take, replicate, length-replicate}
use Rattle.galois.specs.Byte.{Bytes}
use Rattle.code.specs.declared.settings.Settings.{Settings}
use Rattle.code.specs.Settings.{accepted, n_of}
use Rattle.code.specs.Word.{symbol}
use Rattle.code.proofs.Shape.{shape}
use Rattle.protocol.specs.Lengths.{last_slot, message_len, frame_len, sender_len}
use Rattle.protocol.specs.States.{opened_sender}
use Rattle.protocol.specs.Frame.{header, sent_symbol}
use Rattle.protocol.specs.Codewords.{source}
use Rattle.protocol.specs.Calls.{OpenedSender, open_sender_of}
use Rattle.protocol.specs.TwoLists.{Send, SendMade, sends}
use Rattle.protocol.specs.Histories.{SentAs, message_at}
use Rattle.protocol.specs.Claim.{SendTaken}
use Rattle.protocol.proofs.Sending.{opened_sender_lem}
use Rattle.protocol.proofs.Slots as slots
use Rattle.protocol.proofs.SentLengths as lengths
use Rattle.protocol.proofs.SenderRows.{Remembers, Follows, remembers_start, remembers}
use Rattle.protocol.proofs.SentFrames.{frame_header, frame_symbol, sent_symbol_lem}

-- the sends made from an accepted opening on
abbrev pub sent_of : Settings → List Send → List SendMade
sent_of s calls = sends (opened_sender s) (replicate (sender_len s) 0) calls

-- whatever rows were lent to the opening
pub opened_sent : (s : Settings) (rows : List ℕ) (calls : List Send) → T (accepted s) → length rows ≡ sender_len s
    → sends (open_sender_of s rows).sender (open_sender_of s rows).rows calls ≡ sent_of s calls
opened_sent s rows calls ok full = ap (λ (o : OpenedSender). sends o.sender o.rows calls) (opened_sender_lem s rows ok full)

-- the first rows have their length
first : (s : Settings) → lengths.Kept s (opened_sender s) (replicate (sender_len s) 0)
first s = (refl, length-replicate (sender_len s) 0)

module _ (s : Settings) (calls : List Send) where
  -- a slot is sent once
  pub once : (t : ℕ) (m₁ f₁ m₂ f₂ : List ℕ) → SentAs (sent_of s calls) t m₁ f₁ → SentAs (sent_of s calls) t m₂ f₂
      → (m₁ ≡ m₂) × (f₁ ≡ f₂)
  once = slots.once (opened_sender s) (replicate (sender_len s) 0) calls

  -- the message at a slot is the one that was sent in it
  pub message_at_lem : (t : ℕ) (message f : List ℕ) → SentAs (sent_of s calls) t message f → message_at (sent_of s calls) t ≡ message
  message_at_lem = slots.message_at_lem (opened_sender s) (replicate (sender_len s) 0) calls

  -- slots are sent in order from 0
  pub sent_before : (t τ : ℕ) (m f : List ℕ) → SentAs (sent_of s calls) τ m f → t ≤ τ
      → (message : List ℕ) × (frame : List ℕ) × SentAs (sent_of s calls) t message frame
  sent_before t τ m f a to = slots.sent_before (opened_sender s) (replicate (sender_len s) 0) calls t τ m f a zero-le to

  -- an accepted send's message is that of the history
  follows : (m : SendMade) → Memᴰ m (sent_of s calls) → Follows (message_at (sent_of s calls)) m
  follows m h ok =
      sym (message_at_lem m.before.due m.call.message m.after.frame
      (record { send = m; listed = h; taken = ok; slot = refl; given = refl; out = refl }))

  -- the messages of the history are bytes
  pub message_byte : ((c : Send) → Memᴰ c calls → Bytes c.message) → (t j : ℕ)
      → get_or (message_at (sent_of s calls) t) j 0 < 256
  message_byte = lengths.message_byte (opened_sender s) (replicate (sender_len s) 0) calls

module _ (s : Settings) (ok : T (accepted s)) (calls : List Send) where
  -- when a send is accepted
  pub sends_taken : (m : SendMade) → Memᴰ m (sent_of s calls) → SendTaken s m
  sends_taken = lengths.sends_taken s ok (opened_sender s) (replicate (sender_len s) 0) calls (first s)

  -- the lengths of a message and its frame, and the last slot
  pub sent_lengths : (t : ℕ) (message f : List ℕ) → SentAs (sent_of s calls) t message f
      → (length message ≡ message_len s) × (length f ≡ frame_len s) × (t ≤ last_slot)
  sent_lengths = lengths.sent_lengths s ok (opened_sender s) (replicate (sender_len s) 0) calls (first s)

  -- a frame begins with the header of its slot
  pub sent_header : (τ : ℕ) (message f : List ℕ) → SentAs (sent_of s calls) τ message f → take 14 f ≡ header 1 s τ
  sent_header τ message f a =
      ap (take 14) (lengths.sent_frame s ok (opened_sender s) (replicate (sender_len s) 0) calls (first s) τ message f a)
      ∙ frame_header 1 s a.send.rows message τ

  -- the truth of frames: symbol p of lane v is that of the codeword that the messages make
  pub frame_true : ((c : Send) → Memᴰ c calls → Bytes c.message) → (τ : ℕ) (message f : List ℕ)
      → SentAs (sent_of s calls) τ message f → (p v : ℕ) → p < n_of s → v < s.lanes
      → get_or f (14 + (p * s.lanes + v)) 0 ≡ symbol s (source s (message_at (sent_of s calls)) τ p v) p
  frame_true bytes τ message f a p v hp hv =
      let H : ℕ → List ℕ = message_at (sent_of s calls) in
      let m = a.send in
      let holds : Remembers s H m.before m.rows =
      remembers s (shape s ok) H (opened_sender s) (replicate (sender_len s) 0) calls (remembers_start s H) (follows s calls) m
      a.listed in
      let told : sent_symbol s m.rows (H τ) τ p v ≡ symbol s (source s H τ p v) p =
      rw a.slot at (sent_symbol_lem s (shape s ok) H (message_byte s calls bytes) m.before m.rows holds p v hp hv) in
      ap (λ (l : List ℕ). get_or l (14 + (p * s.lanes + v)) 0)
      (lengths.sent_frame s ok (opened_sender s) (replicate (sender_len s) 0) calls (first s) τ message f a)
      ∙ frame_symbol 1 s m.rows message τ p v hp hv
      ∙ ap (λ (l : List ℕ). sent_symbol s m.rows l τ p v) (sym (message_at_lem s calls τ message f a))
      ∙ told
