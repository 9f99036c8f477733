-- What the receiver's verdict on message t means, in the words of specs/Meaning.antt.
use Rattle.std.specs.Prelude.{Ok, Err}
use mathlib.Core.Path.{◌≡◌, refl, sym, ap, ap₂, ◌∙◌, subst, subst⁻¹}
use mathlib.Core.Bool.{Bool, true, false}
use mathlib.Core.Logic.{◌↔◌}
use mathlib.Core.List.{List}
use Prim.Native.Nat.{ℕ, ◌+◌, ◌*◌, ◌/◌, ◌%◌, ◌<◌}
use native.Mathlib.Nat.{mod-lt, div-add-mod', div-lt_iff_lt-mul}
use native.Mathlib.Omega.{arith}
use lib.Dec.{T}
use lib.Arith.{digits_lt, digits_div, digits_mod}
use lib.ListN.{get_or, length, replicate, length-replicate}
use lib.Seq.{ext_get_or}
use Rattle.galois.specs.Bounded.{any}
use Rattle.galois.proofs.Cases.{any_at, some_any}
use Rattle.code.specs.declared.settings.Settings.{Settings}
use Rattle.code.specs.Fitting.{Arrived}
use Rattle.code.specs.Settings.{k_of}
use Rattle.galois.proofs.ByIndex.{length-table, get_or-table}
use Rattle.elimination.specs.declared.lane.Symbol.{Symbol}
use Rattle.elimination.specs.declared.lane.Symbol.TheVariants as symbol
use Rattle.elimination.proofs.ValueLaws.{said_clash, clash_said, said_lost, lost_said, whole_said}
use Rattle.protocol.specs.Answers.{Reply}
use Rattle.protocol.specs.declared.Told.TheVariants.{NoneYet, Whole, Lost, Clash}
use Rattle.protocol.specs.Lengths.{message_len}
use Rattle.protocol.specs.Verdict.{arrived, symbol_said, is_clash, is_lost, whole_byte, some_codeword, by_tests}
use Rattle.protocol.specs.Verdict.{none_fits, two_differ, verdict, shared_bytes, buffer_of}
use Rattle.protocol.specs.Numbers.{reply_number}
use Rattle.protocol.specs.Meaning.{Fitting, SomeClash, SomeLost, Share, AllShare}

-- ---- one of three, by two tests

-- the first test passes; else the second; else neither
first : (a b : Bool) → (by_tests a b ≡ Ok Clash) ↔ T a
first true b = (λ e. tt, λ h. refl)
first false true = (λ e. absurd (let z : ◌≡◌ {A = ℕ} 0 1 = cc in omega arith), λ h. absurd h)
first false false = (λ e. absurd (let z : ◌≡◌ {A = ℕ} 0 1 = cc in omega arith), λ h. absurd h)

second : (a b : Bool) → (by_tests a b ≡ Ok Lost) ↔ ((T a → ⊥) × T b)
second true b = (λ e. absurd (let z : ◌≡◌ {A = ℕ} 0 1 = cc in omega arith), λ x. absurd (x.0 tt))
second false true = (λ e. ((λ h. h), tt), λ x. refl)
second false false = (λ e. absurd (let z : ◌≡◌ {A = ℕ} 0 1 = cc in omega arith), λ x. absurd x.1)

third : (a b : Bool) → (by_tests a b ≡ Ok Whole) ↔ ((T a → ⊥) × (T b → ⊥))
third true b = (λ e. absurd (let z : ◌≡◌ {A = ℕ} 0 1 = cc in omega arith), λ x. absurd (x.0 tt))
third false true = (λ e. absurd (let z : ◌≡◌ {A = ℕ} 0 1 = cc in omega arith), λ x. absurd (x.1 tt))
third false false = (λ e. ((λ h. h), λ h. h), λ x. refl)

-- ---- one symbol

symbol_clash : (x : Symbol) → T (is_clash x) → x ≡ symbol.Clash
symbol_clash symbol.Clash h = refl
symbol_clash symbol.Lost h = absurd h
symbol_clash (symbol.Whole b) h = absurd h

symbol_lost : (x : Symbol) → T (is_lost x) → x ≡ symbol.Lost
symbol_lost symbol.Clash h = absurd h
symbol_lost symbol.Lost h = refl
symbol_lost (symbol.Whole b) h = absurd h

-- a symbol that is neither clash nor lost is whole
symbol_whole : (x : Symbol) → (T (is_clash x) → ⊥) → (T (is_lost x) → ⊥) → x ≡ symbol.Whole (whole_byte x)
symbol_whole symbol.Clash c l = absurd (c tt)
symbol_whole symbol.Lost c l = absurd (l tt)
symbol_whole (symbol.Whole b) c l = refl

module _ (s : Settings) (rows : List ℕ) (due t : ℕ) where
  -- what arrived of the codewords that carry the message, and what the fitting words say of its symbols
  abbrev what : ℕ → ℕ → Arrived
  what = arrived s rows due t

  abbrev told : ℕ → ℕ → Symbol
  told = symbol_said s rows due t

  -- ---- all codewords

  -- a test passes at some codeword exactly if there is one
  some_at : (f : ℕ → ℕ → Bool) → T (some_codeword s f) → (i : ℕ) × (v : ℕ) × (i < k_of s) × (v < s.lanes) × T (f i v)
  unfolding some_codeword
  some_at f h =
      let x = any_at (k_of s) (λ i. any s.lanes (λ v. f i v)) h in
      let y = any_at s.lanes (λ v. f x.0 v) x.2 in
      (x.0, y.0, x.1, y.1, y.2)

  at_some : (f : ℕ → ℕ → Bool) (i v : ℕ) → i < k_of s → v < s.lanes → T (f i v) → T (some_codeword s f)
  unfolding some_codeword
  at_some f i v hi hv h =
      some_any (k_of s) (λ i. any s.lanes (λ v. f i v)) i hi (some_any s.lanes (λ v. f i v) v hv h)

  clash_means : T (none_fits s rows due t) → SomeClash s what
  unfolding none_fits symbol_said
  clash_means h =
      let x = some_at (λ i v. is_clash (told i v)) h in
      record {
        symbol = x.0;
        lane = x.1;
        symbol_below = x.2;
        lane_below = x.3;
        none_fits_lem = λ u f. clash_said s (what x.0 x.1) x.0 (symbol_clash (told x.0 x.1) x.4) u f.0 f.1;
      }

  means_clash : SomeClash s what → T (none_fits s rows due t)
  unfolding none_fits symbol_said
  means_clash c =
      at_some (λ i v. is_clash (told i v)) c.symbol c.lane c.symbol_below c.lane_below
      (subst⁻¹ (λ (x : Symbol). T (is_clash x))
      (said_clash s (what c.symbol c.lane) c.symbol (λ u b f. c.none_fits_lem u (b, f))) tt)

  lost_means : T (two_differ s rows due t) → SomeLost s what
  unfolding two_differ symbol_said
  lost_means h =
      let x = some_at (λ i v. is_lost (told i v)) h in
      let y = lost_said s (what x.0 x.1) x.0 (symbol_lost (told x.0 x.1) x.4) in
      record {
        symbol = x.0;
        lane = x.1;
        symbol_below = x.2;
        lane_below = x.3;
        one = y.0;
        other = y.1;
        one_fits = (y.2, y.4);
        other_fits = (y.3, y.5);
        they_differ = y.6;
      }

  means_lost : SomeLost s what → T (two_differ s rows due t)
  unfolding two_differ symbol_said
  means_lost c =
      at_some (λ i v. is_lost (told i v)) c.symbol c.lane c.symbol_below c.lane_below
      (subst⁻¹ (λ (x : Symbol). T (is_lost x))
      (said_lost s (what c.symbol c.lane) c.symbol c.one c.other c.one_fits.0 c.other_fits.0
      c.one_fits.1 c.other_fits.1 c.they_differ) tt)

  -- ---- the verdict

  -- where neither passes, the fitting words share each symbol's byte
  neither_shares : (T (none_fits s rows due t) → ⊥) → (T (two_differ s rows due t) → ⊥)
      → AllShare s what (λ i v. whole_byte (told i v))
  unfolding none_fits two_differ symbol_said
  neither_shares c l i v hi hv =
      let x = whole_said s (what i v) i (whole_byte (told i v))
      (symbol_whole (told i v) (λ h. c (at_some (λ i v. is_clash (told i v)) i v hi hv h))
      (λ h. l (at_some (λ i v. is_lost (told i v)) i v hi hv h))) in
      record { word = x.0.0; is_such = (x.0.1, x.0.2); all_have = λ u f. x.1 u f.0 f.1 }

  -- where they share bytes there is neither
  clash_apart : (byte : ℕ → ℕ → ℕ) → AllShare s what byte → SomeClash s what → ⊥
  clash_apart byte all c =
      let x = all c.symbol c.lane c.symbol_below c.lane_below in
      c.none_fits_lem x.word x.is_such

  lost_apart : (byte : ℕ → ℕ → ℕ) → AllShare s what byte → SomeLost s what → ⊥
  lost_apart byte all c =
      let x = all c.symbol c.lane c.symbol_below c.lane_below in
      c.they_differ (x.all_have c.one c.one_fits ∙ sym (x.all_have c.other c.other_fits))

  -- the two tests, clash before lost
  abbrev none : Bool
  none = none_fits s rows due t

  abbrev two : Bool
  two = two_differ s rows due t

  -- clash, exactly if some codeword that carries the message has no word that fits what arrived
  pub verdict_clash : (verdict s rows due t ≡ Ok Clash) ↔ SomeClash s what
  unfolding verdict
  verdict_clash = (λ e. clash_means ((first none two).0 e), λ c. (first none two).1 (means_clash c))

  -- else lost, exactly if two fitting words differ in it
  pub verdict_lost : (verdict s rows due t ≡ Ok Lost) ↔ ((SomeClash s what → ⊥) × SomeLost s what)
  unfolding verdict
  verdict_lost = (
    λ e. let x = (second none two).0 e in ((λ c. x.0 (means_clash c)), lost_means x.1),
    λ x. (second none two).1 ((λ h. x.0 (clash_means h)), means_lost x.1),
  )

  -- else whole
  pub verdict_else : (verdict s rows due t ≡ Ok Whole) ↔ ((SomeClash s what → ⊥) × (SomeLost s what → ⊥))
  unfolding verdict
  verdict_else = (
    λ e. let x = (third none two).0 e in ((λ c. x.0 (means_clash c)), λ l. x.1 (means_lost l)),
    λ x. (third none two).1 ((λ h. x.0 (clash_means h)), λ h. x.1 (lost_means h)),
  )

  -- and whole where the fitting words share bytes
  pub shares_whole : (byte : ℕ → ℕ → ℕ) → AllShare s what byte → verdict s rows due t ≡ Ok Whole
  shares_whole byte all = verdict_else.1 ((λ c. clash_apart byte all c), λ l. lost_apart byte all l)

  -- a shared byte, where it stands in the message
  pub shared_byte_lem : (i v : ℕ) → i < k_of s → v < s.lanes
      → get_or (shared_bytes s rows due t) (i * s.lanes + v) 0 ≡ whole_byte (told i v)
  unfolding shared_bytes message_len
  shared_byte_lem i v hi hv =
      get_or-table (message_len s) (λ q. whole_byte (told (q / s.lanes) (q % s.lanes))) (i * s.lanes + v) 0
      (digits_lt hi hv)
      ∙ ap₂ (λ (a b : ℕ). whole_byte (told a b)) (digits_div i hv) (digits_mod i hv)

  -- and then the message buffer holds them
  pub whole_bytes : verdict s rows due t ≡ Ok Whole
      → AllShare s what (λ i v. get_or (buffer_of s rows due t (verdict s rows due t)) (i * s.lanes + v) 0)
  unfolding buffer_of shared_bytes verdict
  whole_bytes e i v hi hv =
      subst⁻¹ (λ (b : ℕ). Share s (Fitting s (what i v)) i b)
      (ap (λ (x : Reply). get_or (buffer_of s rows due t x) (i * s.lanes + v) 0) e ∙ shared_byte_lem i v hi hv)
      (let x = (third none two).0 e in neither_shares x.0 x.1 i v hi hv)

  -- ---- the message buffer, by any reply

  -- zeros unless the message is whole
  pub buffer_zeros : (r : Reply) → (reply_number r ≡ 17 → ⊥) → buffer_of s rows due t r ≡ replicate (message_len s) 0
  unfolding buffer_of
  buffer_zeros (Err c) n = refl
  buffer_zeros (Ok NoneYet) n = refl
  buffer_zeros (Ok Whole) n = absurd (n refl)
  buffer_zeros (Ok Lost) n = refl
  buffer_zeros (Ok Clash) n = refl

  -- and it has its length
  pub buffer_length : (r : Reply) → length (buffer_of s rows due t r) ≡ message_len s
  unfolding buffer_of
  buffer_length (Err c) = length-replicate (message_len s) 0
  buffer_length (Ok NoneYet) = length-replicate (message_len s) 0
  buffer_length (Ok Whole) = length-table (message_len s) _
  buffer_length (Ok Lost) = length-replicate (message_len s) 0
  buffer_length (Ok Clash) = length-replicate (message_len s) 0

  -- and where the fitting words share the bytes of a list of that length, it is that list
  pub whole_list : 0 < s.lanes → (l : List ℕ) → length l ≡ message_len s → AllShare s what (λ i v. get_or l (i * s.lanes + v) 0)
      → buffer_of s rows due t (verdict s rows due t) ≡ l
  unfolding message_len
  whole_list some l full all =
      let out : List ℕ = buffer_of s rows due t (verdict s rows due t) in
      let sized : length out ≡ message_len s = buffer_length (verdict s rows due t) in
      ext_get_or 0 out l (sized ∙ sym full)
      (λ q hq.
      let i : ℕ = q / s.lanes in
      let v : ℕ = q % s.lanes in
      let hi : i < k_of s = (div-lt_iff_lt-mul some).1 (subst (λ (m : ℕ). q < m) sized hq) in
      let x = all i v hi (mod-lt q some) in
      let y = whole_bytes (shares_whole (λ i v. get_or l (i * s.lanes + v) 0) all) i v hi (mod-lt q some) in
      subst (λ (m : ℕ). get_or out m 0 ≡ get_or l m 0) (div-add-mod' q s.lanes)
      (sym (y.all_have x.word x.is_such) ∙ x.all_have x.word x.is_such))
