-- Document 01, demand 2: what arrived of each codeword that carries a message, and what the receiver says of the message.
use Rattle.std.specs.Prelude.{Bool, true, false, cond, ◌&&◌, List, ℕ, ◌+◌, ◌-◌, ◌*◌, ◌/◌, ◌%◌, eqb, ltb, get_or, replicate, Ok, Err}
use Rattle.galois.specs.Bounded.{any}
use Rattle.code.specs.declared.settings.Settings.{Settings}
use Rattle.code.specs.Fitting.{Arrived}
use Rattle.code.specs.Settings.{k_of}
use Rattle.galois.specs.Table.{table}
use Rattle.elimination.specs.declared.lane.Symbol.{Symbol}
use Rattle.elimination.specs.declared.lane.Symbol.TheVariants as symbol
use Rattle.elimination.specs.Values.{values, said}
use Rattle.protocol.specs.Answers.{Reply}
use Rattle.protocol.specs.declared.Told.TheVariants.{NoneYet, Whole, Lost, Clash}
use Rattle.protocol.specs.Lengths.{message_len, row_len, row_count}

-- where the row of slot t + p - i begins, for i below k; slots before 0 included
unfoldable pub row_at : Settings → ℕ → ℕ → ℕ → ℕ
row_at s t i p = (t + p + row_count s - i) % row_count s * row_len s

-- slot t + p - i is one of the slots below due, those reported
unfoldable pub reported_at : ℕ → ℕ → ℕ → ℕ → Bool
reported_at due t i p = ltb (t + p) (due + i)

-- what the rows say, once the slots below due are reported, of the codeword of lane v that starts at slot t - i: its position p
-- travels in slot t + p - i, whose row begins with 1 if it was received
unfoldable pub arrived : Settings → List ℕ → ℕ → ℕ → ℕ → ℕ → Arrived
arrived s rows due t i v = record {
  known = λ p. reported_at due t i p && eqb (get_or rows (row_at s t i p) 0) 1;
  byte = λ p. get_or rows (row_at s t i p + (1 + (p * s.lanes + v))) 0;
}

-- what the fitting words of that codeword say of symbol i of message t
unfoldable pub symbol_said : Settings → List ℕ → ℕ → ℕ → ℕ → ℕ → Symbol
symbol_said s rows due t i v = said (values s (arrived s rows due t i v) i)

abbrev pub is_clash : Symbol → Bool
is_clash symbol.Clash = true
is_clash symbol.Lost = false
is_clash (symbol.Whole b) = false

abbrev pub is_lost : Symbol → Bool
is_lost symbol.Clash = false
is_lost symbol.Lost = true
is_lost (symbol.Whole b) = false

abbrev pub whole_byte : Symbol → ℕ
whole_byte symbol.Clash = 0
whole_byte symbol.Lost = 0
whole_byte (symbol.Whole b) = b

-- ---- a message whose symbol i of lane v is told as f i v

-- the test passes at some codeword that carries the message: symbol i of lane v
unfoldable pub some_codeword : Settings → (ℕ → ℕ → Bool) → Bool
some_codeword s f = any (k_of s) (λ i. any s.lanes (λ v. f i v))

-- some symbol is a clash
abbrev pub some_clash : Settings → (ℕ → ℕ → Symbol) → Bool
some_clash s f = some_codeword s (λ i v. is_clash (f i v))

-- some symbol is lost
abbrev pub some_lost : Settings → (ℕ → ℕ → Symbol) → Bool
some_lost s f = some_codeword s (λ i v. is_lost (f i v))

-- by two tests: a clash if the first passes, else lost if the second does, else whole
abbrev pub by_tests : Bool → Bool → Reply
by_tests clash lost = cond clash (Ok Clash) (cond lost (Ok Lost) (Ok Whole))

-- the verdict on it
abbrev pub verdict_by : Settings → (ℕ → ℕ → Symbol) → Reply
verdict_by s f = by_tests (some_clash s f) (some_lost s f)

-- its bytes, lane by lane of one symbol after another
abbrev pub bytes_by : Settings → (ℕ → ℕ → Symbol) → List ℕ
bytes_by s f = table (message_len s) (λ q. whole_byte (f (q / s.lanes) (q % s.lanes)))

-- the message buffer after a reply: its bytes when whole, else zeros
abbrev pub buffer_by : Settings → (ℕ → ℕ → Symbol) → Reply → List ℕ
buffer_by s f (Err c) = replicate (message_len s) 0
buffer_by s f (Ok NoneYet) = replicate (message_len s) 0
buffer_by s f (Ok Whole) = bytes_by s f
buffer_by s f (Ok Lost) = replicate (message_len s) 0
buffer_by s f (Ok Clash) = replicate (message_len s) 0

-- ---- message t, once the slots below due are reported

-- some codeword that carries message t has no word that fits
unfoldable pub none_fits : Settings → List ℕ → ℕ → ℕ → Bool
none_fits s rows due t = some_clash s (symbol_said s rows due t)

-- two fitting words of some codeword differ in message t
unfoldable pub two_differ : Settings → List ℕ → ℕ → ℕ → Bool
two_differ s rows due t = some_lost s (symbol_said s rows due t)

-- a clash if some codeword has no fitting word, else lost if two fitting words of some codeword differ in it, else whole
unfoldable pub verdict : Settings → List ℕ → ℕ → ℕ → Reply
verdict s rows due t = by_tests (none_fits s rows due t) (two_differ s rows due t)

-- the bytes that the fitting words share
unfoldable pub shared_bytes : Settings → List ℕ → ℕ → ℕ → List ℕ
shared_bytes s rows due t = bytes_by s (symbol_said s rows due t)

-- the message buffer: those bytes when whole, else zeros
unfoldable pub buffer_of : Settings → List ℕ → ℕ → ℕ → Reply → List ℕ
buffer_of s rows due t r = buffer_by s (symbol_said s rows due t) r
