-- As early as it can be known: `early_known`, whose statement is `EarlyKnown` of specs/Early.antt.
use Rattle.std.specs.Prelude.{Ok}
use mathlib.Core.Path.{◌≡◌, refl, sym, ap, ◌∙◌, subst, subst⁻¹}
use mathlib.Core.Bool.{not}
use mathlib.Core.Logic.{⊎_elim}
use mathlib.Core.List.{List, Memᴰ}
use Prim.Native.Nat.{ℕ, ◌+◌, ◌-◌, ◌≤◌, ◌<◌}
use native.Mathlib.Omega.{arith}
use lib.Dec.{T, lit<}
use lib.ListN.{length}
use Rattle.galois.specs.Byte.{Bytes}
use Rattle.galois.proofs.Cases.{all_or_one}
use Rattle.code.specs.declared.settings.Settings.{Settings}
use Rattle.code.specs.Settings.{accepted, delay_of, k_of, n_of}
use Rattle.code.specs.Word.{word_at}
use Rattle.code.specs.Fitting.{fits}
use Rattle.code.proofs.Fits.{fits_at, fits_all}
use Rattle.code.proofs.Shape.{Shape, shape}
use Rattle.code.proofs.Symbols.{multiplier_below, symbol_source}
use Rattle.protocol.specs.declared.Told.TheVariants.{Whole, Clash}
use Rattle.protocol.specs.Lengths.{message_len}
use Rattle.protocol.specs.Verdict.{arrived, verdict, buffer_of}
use Rattle.protocol.specs.Calls.{row_before, OpenedReceiver, open_receiver_of}
use Rattle.protocol.specs.TwoLists.{Send, SendMade, ReportMade}
use Rattle.protocol.specs.Histories.{SentAs, message_at, Heard, lost_at, lost_since}
use Rattle.protocol.specs.Meaning.{symbol_in, Fitting, SomeClash, Came}
use Rattle.protocol.specs.Claim.{Faithful}
use Rattle.protocol.proofs.CauseTables.{passes, fails, OpensAt}
use Rattle.protocol.proofs.SenderList.{sent_of, opened_sent, message_at_lem, sent_before, message_byte, sent_lengths}
use Rattle.protocol.proofs.TrueWords.{true_multiplier, true_word}
use Rattle.protocol.proofs.VerdictMeaning.{verdict_clash, verdict_else, whole_bytes}
use Rattle.protocol.proofs.ReportChain.{opened_receiver_lem}
use Rattle.protocol.proofs.ReceivedRows.{Begun, Reached}
use Rattle.protocol.proofs.Arrivals.{known_came}
use Rattle.protocol.proofs.EarlyVerdict.{whole_stays}
use Rattle.protocol.proofs.Recovery.{Truthful, truly_fits, whole_message}
use Rattle.protocol.proofs.Demand.{heard_sent, truthful, holds}
use Rattle.protocol.proofs.Received.{ByVerdict}
use Rattle.early.specs.Mixed.{Call, CallMade, calls, reports_in}
use Rattle.early.specs.Early.{Telling, reported_to, FitsSoFar, Agree, Early, EarlyKnown}
use Rattle.early.proofs.Points.{Point, Standing, mixed_begun, mixed_standing}

-- ---- what was reported so far, and what the rows say

-- at a point of the reports at which message t can be told
module _ {s : Settings} {d : ℕ} {told : List ReportMade} {rows : List ℕ} {due : ℕ} (c : Reached s (row_before s) d told rows due)
    (t : ℕ) (to : due ≤ t + delay_of s + 1) (i v : ℕ) (hi : i < k_of s) (hv : v < s.lanes) (u : ℕ → ℕ) where
  -- a word that fits so far has what came
  has_come : FitsSoFar s (Heard told) due t i v u → (p b : ℕ) → p < n_of s → t + p < due + i → Came s told t i v p b → word_at s u p ≡ b
  has_come f p b hp now (Came.early early) = f.before p hp early
  has_come f p b hp now (Came.heard frame late h) = f.since p frame hp late now h

  -- so it fits what the rows say
  so_far_fits : FitsSoFar s (Heard told) due t i v u → Fitting s (arrived s rows due t i v) u
  so_far_fits f = (
    f.is_word,
    fits_all s (arrived s rows due t i v) u
        (λ p hp known.
        let (now, came) = (known_came c t to i p v hi hp hv ((arrived s rows due t i v).byte p)).0 (known, refl) in
        has_come f p ((arrived s rows due t i v).byte p) hp now came),
  )

  -- and the other way round
  fits_so_far : Fitting s (arrived s rows due t i v) u → FitsSoFar s (Heard told) due t i v u
  fits_so_far (is_word, f) =
      let has : (p b : ℕ) → p < n_of s → t + p < due + i → Came s told t i v p b → word_at s u p ≡ b
      = λ p b hp now came.
      let (known, byte) = (known_came c t to i p v hi hp hv b).1 (now, came) in
      fits_at s (arrived s rows due t i v) u p hp f known ∙ byte in
      record {
        is_word = is_word;
        before = λ p hp early. has p 0 hp (omega arith) (Came.early early);
        since = λ p frame hp late now h. has p (symbol_in s frame p v) hp now (Came.heard frame late h);
      }

-- words that agree by one slot agree by a later one, by which fewer fit; and they agree whoever tells the same frames
pub agree_later : (s : Settings) (heard heard' : ℕ → List ℕ → Type 0) → ((τ : ℕ) (f : List ℕ) → heard τ f → heard' τ f)
    → (due due' t : ℕ) → due ≤ due' → Agree s heard due t → Agree s heard' due' t
unfolding Agree
agree_later s heard heard' more due due' t later agree i v hi hv u w f g =
    let sooner : (x : ℕ → ℕ) → FitsSoFar s heard' due' t i v x → FitsSoFar s heard due t i v x
    = λ x f. record {
      is_word = f.is_word;
      before = f.before;
      since = λ p frame hp late now h. f.since p frame hp late (omega arith) (more (t + p - i) frame h);
    } in
    agree i v hi hv u w (sooner u f) (sooner w g)

-- they agree once the message's own slot is heard, in which its symbol i travels at position i
agree_heard : (s : Settings) → Shape s → (told : List ReportMade) (due t : ℕ) (frame : List ℕ) → t < due → Heard told t frame
    → Agree s (Heard told) due t
unfolding Agree
agree_heard s h told due t frame now heard i v hi hv u w f g =
    let slot : Heard told (t + i - i) frame = subst (λ (τ : ℕ). Heard told τ frame) (omega arith) heard in
    let below : i < n_of s = omega arith in
    f.since i frame below (omega arith) (omega arith) slot ∙ sym (g.since i frame below (omega arith) (omega arith) slot)

-- ---- one point of the reports

-- the sends of an accepted opening, reports from any slot d on, each accepted frame being the sender's own, and a point of them at which
-- message t can be told
module _ (s : Settings) (ok : T (accepted s)) (send_calls : List Send)
    (bytes : (c : Send) → Memᴰ c send_calls → Bytes c.message) (told : List ReportMade) {d : ℕ}
    (begun : Begun s (row_before s) d told) (faithful : Faithful (sent_of s send_calls) told) (t : ℕ) where
  abbrev messages : ℕ → List ℕ
  messages = message_at (sent_of s send_calls)

  module _ {rows : List ℕ} {due : ℕ} (c : Reached s (row_before s) d told rows due) (to : due ≤ t + delay_of s + 1) where
    true_rows : Truthful s rows due t messages (lost_since d (lost_at told))
    true_rows = truthful s ok send_calls bytes told begun faithful rows due t c to

    -- some word fits each codeword: the true one
    fitting : (i v : ℕ) → i < k_of s → v < s.lanes → (u : ℕ → ℕ) × Fitting s (arrived s rows due t i v) u
    fitting i v hi hv = (
      _,
      truly_fits s (shape s ok) rows due t messages (lost_since d (lost_at told)) (message_byte s send_calls bytes) true_rows i v hi
          hv,
    )

    none_clashes : SomeClash s (arrived s rows due t) → ⊥
    none_clashes some =
        let (u, f) = fitting some.symbol some.lane some.symbol_below some.lane_below in
        some.none_fits_lem u f

    never_clash : verdict s rows due t ≡ Ok Clash → ⊥
    never_clash e = none_clashes ((verdict_clash s rows due t).0 e)

    -- whole exactly if all words that fit so far agree
    whole_agree : verdict s rows due t ≡ Ok Whole → Agree s (Heard told) due t
    unfolding Agree
    whole_agree e i v hi hv u w f g =
        let x = whole_bytes s rows due t e i v hi hv in
        x.all_have u (so_far_fits c t to i v hi hv u f) ∙ sym (x.all_have w (so_far_fits c t to i v hi hv w g))

    agree_whole : Agree s (Heard told) due t → verdict s rows due t ≡ Ok Whole
    unfolding Agree
    agree_whole agree =
        (verdict_else s rows due t).1 (
          none_clashes,
          λ l.
              let hi = l.symbol_below in
              let hv = l.lane_below in
              l.they_differ
              (agree l.symbol l.lane hi hv l.one l.other (fits_so_far c t to l.symbol l.lane hi hv l.one l.one_fits)
              (fits_so_far c t to l.symbol l.lane hi hv l.other l.other_fits)),
        )

    -- where nothing came of a codeword every word fits it, also those with 0 and with 1 at its first symbol
    module _ (nothing : (p : ℕ) → p < n_of s → T (not ((arrived s rows due t 0 0).known p))) where
      any_word : (b : ℕ) → b < 256 → Fitting s (arrived s rows due t 0 0) (true_multiplier s (shape s ok) (λ _. b))
      any_word b hb = (
        multiplier_below s (λ _. b) (λ _. hb) (k_of s),
        fits_all s (arrived s rows due t 0 0) (true_multiplier s (shape s ok) (λ _. b))
            (λ p hp known. absurd (subst T (fails ((arrived s rows due t 0 0).known p) known) (nothing p hp))),
      )

      not-whole : verdict s rows due t ≡ Ok Whole → ⊥
      not-whole e =
          let h : Shape s = shape s ok in
          let some : 0 < k_of s = omega arith in
          let x = whole_bytes s rows due t e 0 0 some h.lanes_positive in
          let has : (b : ℕ) → b < 256 → word_at s (true_multiplier s h (λ _. b)) 0 ≡ b
          = λ b hb. true_word s h (λ _. b) 0 ∙ symbol_source s h (λ _. b) (λ _. hb) 0 some in
          let z : ◌≡◌ {A = ℕ} 0 1
          = sym (has 0 (lit< tt)) ∙ x.all_have _ (any_word 0 (lit< tt)) ∙ sym (x.all_have _ (any_word 1 (lit< tt))) ∙ has 1 (lit< tt) in
          omega arith

    -- what came of it came in a frame of slot t or a later one
    came_sent : (p b : ℕ) → Came s told t 0 0 p b → (message : List ℕ) × (frame : List ℕ) × SentAs (sent_of s send_calls) t message frame
    came_sent p b (Came.early before) = absurd (omega arith)
    came_sent p b (Came.heard f late h) =
        let (m, a) = heard_sent s ok send_calls bytes told begun faithful (t + p - 0) f h in
        sent_before s send_calls t (t + p - 0) m f a (omega arith)

    -- so a message that is whole was sent
    whole_sent : verdict s rows due t ≡ Ok Whole → (message : List ℕ) × (frame : List ℕ) × SentAs (sent_of s send_calls) t message frame
    whole_sent e =
        let h : Shape s = shape s ok in
        let some : 0 < k_of s = omega arith in
        ⊎_elim (λ nothing. absurd (not-whole nothing e))
        (λ (p, hp, not_known).
        let known : T ((arrived s rows due t 0 0).known p) = passes ((arrived s rows due t 0 0).known p) not_known in
        came_sent p _ ((known_came c t to 0 p 0 some hp h.lanes_positive _).0 (known, refl)).1)
        (all_or_one (n_of s) (λ p. not ((arrived s rows due t 0 0).known p)))

    -- with these bytes
    whole_as_sent : verdict s rows due t ≡ Ok Whole
        → (message : List ℕ) × (frame : List ℕ) × SentAs (sent_of s send_calls) t message frame
        × (buffer_of s rows due t (verdict s rows due t) ≡ message)
    whole_as_sent e =
        let (message, frame, a) = whole_sent e in
        let same : messages t ≡ message = message_at_lem s send_calls t message frame a in
        let full : length (messages t) ≡ message_len s = ap length same ∙ (sent_lengths s ok send_calls t message frame a).0 in (
          message,
          frame,
          a,
          whole_message s (shape s ok) rows due t messages (lost_since d (lost_at told)) (message_byte s send_calls bytes) true_rows e full
              ∙ same,
        )

-- ---- the calls of a mixed list

-- the sends of an accepted opening, and reports and look-ups of a receiver from any point of the reports on, each accepted frame being
-- the sender's own
module _ (s : Settings) (ok : T (accepted s)) (send_calls : List Send)
    (bytes : (c : Send) → Memᴰ c send_calls → Bytes c.message) (made : List CallMade) {d : ℕ}
    (begun : Begun s (row_before s) d (reports_in made)) (faithful : Faithful (sent_of s send_calls) (reports_in made))
    (stand : Standing begun d made) where
  abbrev told : List ReportMade
  told = reports_in made

  -- what a call tells of message t, it tells by the rows that it leaves
  module _ (t : ℕ) (a : CallMade) (telling : Telling s made t a) where
    point : Point begun a
    point = (stand.each a telling.listed).0

    told_by_lem : ByVerdict s a.after.rows (reported_to a) t a.after.reply a.after.message
    told_by_lem = (point.tells t telling.taken telling.for_it).0

    own_reported : t < reported_to a
    own_reported = (point.tells t telling.taken telling.for_it).1

    in_time_lem : reported_to a ≤ t + delay_of s + 1
    in_time_lem = (point.tells t telling.taken telling.for_it).2

  -- what is whole by the rows that one call left is whole, with the same bytes, by those that one at no earlier slot due left
  still_whole : (t : ℕ) (a b : CallMade) → Telling s made t a → Telling s made t b → reported_to a ≤ reported_to b
      → a.after.reply ≡ Ok Whole → (b.after.reply ≡ Ok Whole) × (b.after.message ≡ a.after.message)
  still_whole t a b ta tb onward whole =
      let (still, same) = whole_stays (point t a ta).left (point t b tb).left t onward (in_time_lem t b tb) (shape s ok).lanes_positive
      (fitting s ok send_calls bytes told begun faithful t (point t b tb).left (in_time_lem t b tb)) (sym (told_by_lem t a ta).0 ∙ whole) in
      ((told_by_lem t b tb).0 ∙ still, (told_by_lem t b tb).1 ∙ same ∙ sym (told_by_lem t a ta).1)

  all-early : Early s d (sent_of s send_calls) made
  all-early = record {
    demand3 = holds s ok send_calls bytes (reports_in made) begun faithful;
    stays = λ t a b ta tb later whole.
        still_whole t a b ta tb (omega (arith, stand.in_order _ _ later, (point t b tb).onward)) whole;
    as_early = λ t a ta. (
      λ whole. whole_agree s ok send_calls bytes told begun faithful t (point t a ta).left (in_time_lem t a ta)
          (sym (told_by_lem t a ta).0 ∙ whole),
      λ first sooner agree.
          (told_by_lem t a ta).0
          ∙ agree_whole s ok send_calls bytes told begun faithful t (point t a ta).left (in_time_lem t a ta)
          (agree_later s (Heard told) (Heard told) (λ τ f h. h) first (reported_to a) t sooner agree),
    );
    once_heard = λ t a frame ta heard.
        (told_by_lem t a ta).0
        ∙ agree_whole s ok send_calls bytes told begun faithful t (point t a ta).left (in_time_lem t a ta)
        (agree_heard s (shape s ok) told (reported_to a) t frame (own_reported t a ta) heard);
    as_sent = λ t a ta whole.
        let (message, frame, was, same) = whole_as_sent s ok send_calls bytes told begun faithful t (point t a ta).left (in_time_lem t a ta)
        (sym (told_by_lem t a ta).0 ∙ whole) in
        (message, frame, was, (told_by_lem t a ta).1 ∙ same);
    no_clash = λ t a ta e.
        never_clash s ok send_calls bytes told begun faithful t (point t a ta).left (in_time_lem t a ta) (sym (told_by_lem t a ta).0 ∙ e);
  }

-- ---- from the openings on

early_from : (s : Settings) (opening : ℕ) (rows : List ℕ) → OpensAt s opening rows → (send_calls : List Send)
    → ((c : Send) → Memᴰ c send_calls → Bytes c.message) → (cs : List Call)
    → let b : OpenedReceiver = open_receiver_of s opening rows in
    let made : List CallMade = calls b.receiver b.rows cs in
    Faithful (sent_of s send_calls) (reports_in made) → Early s opening (sent_of s send_calls) made
early_from s opening rows opens send_calls bytes cs =
    let ok : T (accepted s) = opens.settings in
    rw (opened_receiver_lem s opening rows opens)
    (λ faithful. all-early s ok send_calls bytes _ (mixed_begun s opening ok cs) faithful (mixed_standing s opening ok cs))

-- document 02 §6. Wrong look-ups that agree with themselves, and what in the statement rules each out:
-- - whole as soon as the message's own slot was heard, or not before its last slot: `as_early` says exactly when
-- - one that reads an old slot's row for the slot due: `as_sent`, and `stays`, for the next report writes over it
-- - one that moves the slot due on or writes a row: `demand3` is of the reports as they are made among look-ups
pub early_known : EarlyKnown
unfolding EarlyKnown
early_known s ok opening in_time_lem sender_rows receiver_rows sends-exact reports-exact send_calls bytes receiver_calls =
    let same = opened_sent s sender_rows send_calls ok sends-exact in
    let opens : OpensAt s opening receiver_rows = record { settings = ok; exact = reports-exact; in_time_lem = in_time_lem } in
    let b : OpenedReceiver = open_receiver_of s opening receiver_rows in
    let made : List CallMade = calls b.receiver b.rows receiver_calls in
    subst⁻¹ (λ (sent : List SendMade). Faithful sent (reports_in made) → Early s opening sent made) same
    (early_from s opening receiver_rows opens send_calls bytes receiver_calls)
