-- Both ends work as with the smaller of T and W - 1 set as T: `alike`, whose statement is `Alike` of specs/Alike.antt.
use Rattle.std.specs.Prelude.{Ok, Err}
use mathlib.Core.Path.{◌≡◌, sym, ap, ◌∙◌}
use mathlib.Core.Bool.{true, false, not, ◌&&◌, ◌||◌}
use mathlib.Core.List.{List}
use Prim.Native.Nat.{ℕ, ◌+◌, ◌-◌, ◌*◌, ◌/◌, ◌%◌}
use native.Mathlib.Omega.{arith}
use lib.Dec.{eqb, ltb}
use lib.ListN.{get_or, replicate}
use Rattle.galois.specs.Byte.{◌⊗◌}
use Rattle.galois.specs.Bounded.{every, any}
use Rattle.galois.specs.Sum.{sum}
use Rattle.galois.specs.Table.{table}
use Rattle.code.specs.declared.settings.Settings.{Settings}
use Rattle.code.specs.Settings.{delay_of, k_of, n_of, d_of}
use Rattle.code.specs.Matrix.{entry}
use Rattle.code.specs.Word.{word_at, symbol}
use Rattle.code.specs.Fitting.{Arrived, fits}
use Rattle.code.proofs.Symbols.{symbol_same}
use Rattle.elimination.specs.Values.{any_bytes, passing, has_value, values, said}
use Rattle.protocol.specs.Answers.{Reply}
use Rattle.protocol.specs.declared.Told.TheVariants.{NoneYet, Whole, Lost, Clash}
use Rattle.protocol.specs.Lengths.{message_len, body_len, row_len, row_count}
use Rattle.protocol.specs.Frame.{remembered, sent_symbol, body_of}
use Rattle.protocol.specs.Verdict.{row_at, reported_at, arrived, symbol_said, is_clash, is_lost, whole_byte, some_codeword, by_tests}
use Rattle.protocol.specs.Verdict.{none_fits, two_differ, verdict, buffer_of}
use Rattle.protocol.specs.Delay.{entry_by, WorkWith, at_delay}
use Rattle.protocol.proofs.Delays.{at_work, work_with}
use Rattle.alike.specs.Alike.{Alike}

-- an equation is a path; along it, at τ, a formula goes from the one settings to the other
module _ (s : Settings) where
  -- the smaller number set as T is the smaller number again
  twice : delay_of (at_delay s) ≡ delay_of s
  unfolding delay_of
  twice = omega arith

  -- so both work with it
  other_work : WorkWith (delay_of s) (at_delay s)
  other_work = work_with (at_delay s) (delay_of s) twice

  same_sources : k_of s ≡ k_of (at_delay s)
  same_sources = (at_work s).sources ∙ sym other_work.sources

  same_symbols : n_of s ≡ n_of (at_delay s)
  same_symbols = (at_work s).symbols ∙ sym other_work.symbols

  -- with the same G
  same_entry : (i j : ℕ) → entry s i j ≡ entry (at_delay s) i j
  unfolding entry_by d_of
  same_entry i j = (at_work s).entries i j ∙ sym (other_work.entries i j)

  same_word_at : (u : ℕ → ℕ) (p : ℕ) → word_at s u p ≡ word_at (at_delay s) u p
  unfolding word_at
  same_word_at u p = λ τ. sum (same_sources τ) (λ r. u r ⊗ same_entry r p τ)

  same_word : (x : ℕ → ℕ) (p : ℕ) → symbol s x p ≡ symbol (at_delay s) x p
  same_word = symbol_same s (at_delay s) same_entry same_sources

  same_message_length : message_len s ≡ message_len (at_delay s)
  same_message_length = (at_work s).message_length ∙ sym other_work.message_length

  -- ---- what is sent

  same_remembered : (rows : List ℕ) (t a i v : ℕ) → remembered s rows t a i v ≡ remembered (at_delay s) rows t a i v
  unfolding remembered
  same_remembered rows t a i v =
      λ τ. let ring = same_symbols τ - 1 in get_or rows ((t + ring - a) % ring * same_message_length τ + (i * s.lanes + v)) 0

  same_symbol : (rows message : List ℕ) (t p v : ℕ) → sent_symbol s rows message t p v ≡ sent_symbol (at_delay s) rows message t p v
  unfolding sent_symbol
  same_symbol rows message t p v =
      let parity = ap (λ (x : ℕ → ℕ). symbol s x p) (λ τ i. same_remembered rows t (p - i) i v τ) ∙ same_word _ p in
      λ τ. elim (ltb p (same_sources τ)) [ true ↦ get_or message (p * s.lanes + v) 0 | false ↦ parity τ ]

  same_body : (rows message : List ℕ) (t : ℕ) → body_of s rows message t ≡ body_of (at_delay s) rows message t
  unfolding body_of body_len
  same_body rows message t =
      λ τ. table (same_symbols τ * s.lanes) (λ q. same_symbol rows message t (q / s.lanes) (q % s.lanes) τ)

  -- ---- what is told

  same_fits : (a : Arrived) (u : ℕ → ℕ) → fits s a u ≡ fits (at_delay s) a u
  unfolding fits
  same_fits a u = λ τ. every (same_symbols τ) (λ p. not (a.known p) || eqb (same_word_at u p τ) (a.byte p))

  same_values : (a : Arrived) (i : ℕ) → values s a i ≡ values (at_delay s) a i
  unfolding values has_value
  same_values a i =
      λ τ. passing 256
      (λ b. any_bytes (same_sources τ) (λ l. same_fits a (λ r. get_or l r 0) τ && eqb (same_word_at (λ r. get_or l r 0) i τ) b))

  same_row : (t i p : ℕ) → row_at s t i p ≡ row_at (at_delay s) t i p
  unfolding row_at row_count row_len body_len
  same_row t i p =
      λ τ. let rows = same_sources τ + sym twice τ in (t + p + rows - i) % rows * (1 + same_symbols τ * s.lanes)

  same_said : (rows : List ℕ) (due t i v : ℕ) → symbol_said s rows due t i v ≡ symbol_said (at_delay s) rows due t i v
  unfolding symbol_said arrived
  same_said rows due t i v =
      ap (λ (place : ℕ → ℕ). said (values s (record {
        known = λ p. reported_at due t i p && eqb (get_or rows (place p) 0) 1;
        byte = λ p. get_or rows (place p + (1 + (p * s.lanes + v))) 0;
      }) i)) (λ τ p. same_row t i p τ)
      ∙ ap said (same_values (arrived (at_delay s) rows due t i v) i)

  same_verdict : (rows : List ℕ) (due t : ℕ) → verdict s rows due t ≡ verdict (at_delay s) rows due t
  unfolding verdict none_fits two_differ some_codeword
  same_verdict rows due t =
      λ τ. by_tests
      (any (same_sources τ) (λ i. any s.lanes (λ v. is_clash (same_said rows due t i v τ))))
      (any (same_sources τ) (λ i. any s.lanes (λ v. is_lost (same_said rows due t i v τ))))

  same_buffer : (rows : List ℕ) (due t : ℕ) (r : Reply) → buffer_of s rows due t r ≡ buffer_of (at_delay s) rows due t r
  unfolding buffer_of
  same_buffer rows due t (Ok Whole) =
      λ τ. table (same_message_length τ) (λ q. whole_byte (same_said rows due t (q / s.lanes) (q % s.lanes) τ))
  same_buffer rows due t (Err c) = λ τ. replicate (same_message_length τ) 0
  same_buffer rows due t (Ok NoneYet) = λ τ. replicate (same_message_length τ) 0
  same_buffer rows due t (Ok Lost) = λ τ. replicate (same_message_length τ) 0
  same_buffer rows due t (Ok Clash) = λ τ. replicate (same_message_length τ) 0

pub alike : Alike
alike = record { same_body = same_body; same_verdict = same_verdict; same_buffer = same_buffer }
