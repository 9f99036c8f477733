-- From rows that tell the truth to a message that is whole: under fair losses each codeword's fitting words agree with the true one.
use Rattle.std.specs.Prelude.{Ok}
use mathlib.Core.Path.{◌≡◌, sym, ◌∙◌, subst}
use mathlib.Core.Bool.{Bool, not}
use mathlib.Core.List.{List}
use Prim.Native.Nat.{ℕ, ◌+◌, ◌-◌, ◌*◌, ◌<◌}
use native.Mathlib.Omega.{arith}
use lib.Dec.{T}
use lib.ListN.{length, get_or}
use Rattle.code.specs.declared.settings.Settings.{Settings}
use Rattle.code.specs.Settings.{delay_of, k_of, n_of}
use Rattle.code.specs.Word.{word_at, symbol}
use Rattle.code.proofs.Fits.{fits_all}
use Rattle.code.proofs.Shape.{Shape}
use Rattle.code.proofs.Symbols.{multiplier_below}
use Rattle.repair.specs.Fair.{Fair, lost_position}
use Rattle.repair.proofs.Window.{window_fits}
use Rattle.protocol.specs.declared.Told.TheVariants.{Whole}
use Rattle.protocol.specs.Lengths.{message_len}
use Rattle.protocol.specs.Codewords.{source}
use Rattle.protocol.specs.Verdict.{arrived, verdict, buffer_of}
use Rattle.protocol.specs.Meaning.{Fitting, Share}
use Rattle.protocol.proofs.TrueWords.{source_below, true_multiplier, true_word, symbol_own}
use Rattle.protocol.proofs.VerdictMeaning.{shares_whole, whole_bytes, whole_list}

-- what the rows say of message t's codewords, of the slots below due, is the truth about these messages and losses: every position
-- whose slot was not lost is known, and a known position has the true word's symbol
pub record Truthful (s : Settings) (rows : List ℕ) (due t : ℕ) (messages : ℕ → List ℕ) (lost : ℕ → Bool) : Type 0 where
  pub heard_known : (i v p : ℕ) → i < k_of s → v < s.lanes → p < n_of s → t + p < due + i
      → T (not (lost_position lost t i p)) → T ((arrived s rows due t i v).known p)
  pub known_true : (i v p : ℕ) → i < k_of s → v < s.lanes → p < n_of s
      → T ((arrived s rows due t i v).known p) → (arrived s rows due t i v).byte p ≡ symbol s (source s messages t i v) p

module _ (s : Settings) (h : Shape s) (rows : List ℕ) (due t : ℕ) (messages : ℕ → List ℕ) (lost : ℕ → Bool)
    (bytes : (t j : ℕ) → get_or (messages t) j 0 < 256) (true_rows : Truthful s rows due t messages lost) where
  module _ (i v : ℕ) (hi : i < k_of s) (hv : v < s.lanes) where
    -- the true word's multipliers
    abbrev truly : ℕ → ℕ
    truly = true_multiplier s h (source s messages t i v)

    -- the true word fits what arrived
    pub truly_fits : Fitting s (arrived s rows due t i v) truly
    truly_fits = (
      multiplier_below s (source s messages t i v) (source_below s messages bytes t i v) (k_of s),
      fits_all s (arrived s rows due t i v) truly
          (λ p hp known. true_word s h (source s messages t i v) p ∙ sym (true_rows.known_true i v p hi hv hp known)),
    )

    -- and has the message's byte
    truly_own : word_at s truly i ≡ get_or (messages t) (i * s.lanes + v) 0
    truly_own = true_word s h (source s messages t i v) i ∙ symbol_own s h messages bytes t i v hi

    -- under fair losses, once slot t + T is reported, every fitting word has it
    shares : Fair s lost (t + 1 - k_of s) (t + delay_of s) → t + delay_of s < due
        → Share s (Fitting s (arrived s rows due t i v)) i (get_or (messages t) (i * s.lanes + v) 0)
    shares fair all = record {
      word = truly;
      is_such = truly_fits;
      all_have = λ u f.
          window_fits s h t i hi lost fair (arrived s rows due t i v)
          (λ p hp to heard. true_rows.heard_known i v p hi hv hp (omega arith) heard) u truly f.0 truly_fits.0 f.1 truly_fits.1
          ∙ truly_own;
    }

  -- so the verdict is whole
  pub recovered : Fair s lost (t + 1 - k_of s) (t + delay_of s) → t + delay_of s < due → verdict s rows due t ≡ Ok Whole
  recovered fair all =
      shares_whole s rows due t (λ i v. get_or (messages t) (i * s.lanes + v) 0) (λ i v hi hv. shares i v hi hv fair all)

  -- and whenever it is, the buffer holds the message
  pub whole_message : verdict s rows due t ≡ Ok Whole → length (messages t) ≡ message_len s
      → buffer_of s rows due t (verdict s rows due t) ≡ messages t
  whole_message whole full =
      whole_list s rows due t h.lanes_positive (messages t) full
      (λ i v hi hv.
      let x = whole_bytes s rows due t whole i v hi hv in
      subst (Share s (Fitting s (arrived s rows due t i v)) i)
      (sym (x.all_have (truly i v hi hv) (truly_fits i v hi hv)) ∙ truly_own i v hi hv) x)
