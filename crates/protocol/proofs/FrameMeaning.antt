-- Demand 2, the sender: `demand2_frame`, whose statement is `Demand2Frame` of specs/Meaning.antt.
use Rattle.std.specs.Prelude.{Ok}
use mathlib.Core.Path.{◌≡◌, refl, sym, ◌∙◌, subst⁻¹}
use mathlib.Core.List.{List, Memᴰ}
use Prim.Native.Nat.{ℕ, ◌+◌, ◌-◌, ◌*◌, ◌%◌, ◌≤◌, ◌<◌}
use native.Mathlib.Omega.{arith}
use lib.Dec.{T}
use lib.ListN.{get_or}
use borrow.Author.Tests.{lt-ltb, le-ltb}
use Rattle.galois.specs.Byte.{Bytes}
use Rattle.code.specs.declared.settings.Settings.{Settings}
use Rattle.code.specs.Settings.{accepted, k_of, n_of}
use Rattle.code.specs.Word.{word_at, symbol}
use Rattle.code.proofs.Shape.{Shape, shape}
use Rattle.code.proofs.Symbols.{multiplier_below, symbol_source, symbol_equal, symbol_of_word}
use Rattle.protocol.specs.declared.Sender.{Sender}
use Rattle.protocol.specs.Lengths.{message_len}
use Rattle.protocol.specs.Frame.{remembered, sent_symbol}
use Rattle.protocol.specs.Codewords.{source}
use Rattle.protocol.specs.Calls.{send_of}
use Rattle.protocol.specs.TwoLists.{Send, SendMade}
use Rattle.protocol.specs.Histories.{SentAs, message_at}
use Rattle.protocol.specs.Meaning.{Begins, Share, AcceptedSend, FrameOfSlot, Demand2Frame}
use Rattle.protocol.proofs.NumberLaws.{answer_tells}
use Rattle.protocol.proofs.TrueWords.{source_below, true_multiplier, true_word}
use Rattle.protocol.proofs.Sending.{taken_send, taken_case}
use Rattle.protocol.proofs.SentLengths.{length-frame, byte_at}
use Rattle.protocol.proofs.SentFrames.{frame_header, frame_symbol}
use Rattle.protocol.proofs.SenderList.{sent_of, opened_sent, message_byte, sent_lengths, sent_header, frame_true}

-- symbol p of the word with the first symbols x: there is such a word, and all such words have it
symbol_shared : (s : Settings) (h : Shape s) (x : ℕ → ℕ) → ((r : ℕ) → x r < 256) → (p : ℕ) → Share s (Begins s x) p (symbol s x p)
symbol_shared s h x bytes p = record {
  word = true_multiplier s h x;
  is_such = (multiplier_below s x bytes (k_of s), λ i hi. true_word s h x i ∙ symbol_source s h x bytes i hi);
  all_have = λ u f. sym (symbol_of_word s h u f.0 p) ∙ symbol_equal s (word_at s u) x f.1 p;
}

-- ---- by the rows

module _ (s : Settings) (rows message : List ℕ) (t : ℕ) where
  -- the first k symbols of slot t are the message's
  sent_own : (p v : ℕ) → p < k_of s → sent_symbol s rows message t p v ≡ get_or message (p * s.lanes + v) 0
  unfolding sent_symbol
  sent_own p v hp = rw (lt-ltb p (k_of s) hp, sent_symbol)

  -- the others are of the words that begin with the earlier messages
  sent_parity : (p v : ℕ) → k_of s ≤ p → sent_symbol s rows message t p v ≡ symbol s (λ i. remembered s rows t (p - i) i v) p
  unfolding sent_symbol
  sent_parity p v hp = rw (le-ltb p (k_of s) hp, sent_symbol)

  remembered_byte : Bytes rows → (p v i : ℕ) → remembered s rows t (p - i) i v < 256
  unfolding remembered
  remembered_byte bytes p v i =
      byte_at rows bytes ((t + (n_of s - 1) - (p - i)) % (n_of s - 1) * message_len s + (i * s.lanes + v))

taken_send_lem : (x : Sender) (rows message : List ℕ) → T (accepted x.settings)
    → AcceptedSend x.settings x.due rows message (taken_send x rows message)
taken_send_lem x rows message ok =
    let s = x.settings in
    let h : Shape s = shape s ok in
    let t : ℕ = x.due in
    record {
      moved = (refl, refl);
      written = refl;
      exact = length-frame 1 s rows message t;
      headed = frame_header 1 s rows message t;
      own = λ p v hp hv.
          frame_symbol 1 s rows message t p v (omega arith) hv ∙ sent_own s rows message t p v hp;
      parity = λ bytes p v from to hv.
          subst⁻¹ (λ (b : ℕ). Share s (Begins s (λ i. remembered s rows t (p - i) i v)) p b)
          (frame_symbol 1 s rows message t p v to hv ∙ sent_parity s rows message t p v from)
          (symbol_shared s h (λ i. remembered s rows t (p - i) i v) (remembered_byte s rows message t bytes p v) p);
    }

by_rows : (x : Sender) (rows message frame : List ℕ) → (send_of x rows message frame).answer ≡ Ok tt
    → AcceptedSend x.settings x.due rows message (send_of x rows message frame)
by_rows x rows message frame e =
    let taken = taken_case x rows message frame e in
    subst⁻¹ (AcceptedSend x.settings x.due rows message) taken.1 (taken_send_lem x rows message taken.0.settled)

-- ---- by the messages

by_messages : (s : Settings) (ok : T (accepted s)) (calls : List Send) → ((c : Send) → Memᴰ c calls → Bytes c.message)
    → (t : ℕ) (message frame : List ℕ) → SentAs (sent_of s calls) t message frame
    → FrameOfSlot s (message_at (sent_of s calls)) t frame
by_messages s ok calls bytes t message frame a =
    let messages : ℕ → List ℕ = message_at (sent_of s calls) in
    record {
      exact = (sent_lengths s ok calls t message frame a).1;
      headed = sent_header s ok calls t message frame a;
      symbols = λ p v hp hv.
          subst⁻¹ (λ (b : ℕ). Share s (Begins s (source s messages t p v)) p b)
          (frame_true s ok calls bytes t message frame a p v hp hv)
          (symbol_shared s (shape s ok) (source s messages t p v)
          (source_below s messages (message_byte s calls bytes) t p v) p);
    }

-- demand 2, the sender
pub demand2_frame : Demand2Frame
demand2_frame = record {
  by_rows = λ x rows message frame n.
      by_rows x rows message frame (answer_tells (send_of x rows message frame).answer (Ok tt) n);
  by_messages = λ s ok rows exact calls bytes.
      subst⁻¹
      (λ (sent : List SendMade).
      (t : ℕ) (message frame : List ℕ) → SentAs sent t message frame → FrameOfSlot s (message_at sent) t frame)
      (opened_sent s rows calls ok exact) (by_messages s ok calls bytes);
}
