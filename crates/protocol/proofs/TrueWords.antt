-- The true words: the codewords that the messages make, seen from any of their slots, and before slot 0.
use mathlib.Core.Path.{◌≡◌, refl, sym, ap, ◌∙◌, subst⁻¹}
use mathlib.Core.Logic.{⊎_elim}
use mathlib.Core.List.{List}
use Prim.Native.Nat.{ℕ, ◌+◌, ◌-◌, ◌*◌, ◌≤◌, ◌<◌}
use native.Mathlib.Omega.{arith}
use lib.Dec.{lit<}
use lib.ListN.{get_or}
use borrow.Author.Tests.{le-leb, lt-leb}
use Rattle.galois.proofs.Cases.{le_or_lt}
use Rattle.code.specs.declared.settings.Settings.{Settings}
use Rattle.code.specs.Settings.{k_of}
use Rattle.code.specs.Word.{word_at, multipliers, symbol}
use Rattle.code.proofs.Shape.{Shape}
use Rattle.code.proofs.Symbols.{multiplier_below, symbol_source, symbol_equal}
use Rattle.code.proofs.Words.{word_at_zeros, zero_multipliers}
use Rattle.protocol.specs.Codewords.{source}

module _ (s : Settings) (messages : ℕ → List ℕ) where
  -- a source symbol from slot 0 on
  pub source_at_lem : (t i v r : ℕ) → i ≤ t + r → source s messages t i v r ≡ get_or (messages (t + r - i)) (r * s.lanes + v) 0
  unfolding source
  source_at_lem t i v r h = rw (le-leb i (t + r) h, source)

  -- and one before slot 0
  pub source_early : (t i v r : ℕ) → t + r < i → source s messages t i v r ≡ 0
  unfolding source
  source_early t i v r h = rw (lt-leb i (t + r) h, source)

  -- the same codeword, seen from the slot of its position p
  pub source_slot : (t i v p r : ℕ) → i ≤ t + p → source s messages (t + p - i) p v r ≡ source s messages t i v r
  source_slot t i v p r h =
      ⊎_elim
      (λ from.
      source_at_lem (t + p - i) p v r (omega arith)
      ∙ ap (λ (m : ℕ). get_or (messages m) (r * s.lanes + v) 0) (omega arith)
      ∙ sym (source_at_lem t i v r from))
      (λ early. source_early (t + p - i) p v r (omega arith) ∙ sym (source_early t i v r early))
      (le_or_lt i (t + r))

  -- the source symbols are bytes where the messages are
  pub source_below : ((t j : ℕ) → get_or (messages t) j 0 < 256) → (t i v r : ℕ) → source s messages t i v r < 256
  source_below b t i v r =
      ⊎_elim
      (λ from. subst⁻¹ (λ (x : ℕ). x < 256) (source_at_lem t i v r from) (b (t + r - i) (r * s.lanes + v)))
      (λ early. subst⁻¹ (λ (x : ℕ). x < 256) (source_early t i v r early) (lit< tt))
      (le_or_lt i (t + r))

module _ (s : Settings) (h : Shape s) where
  -- the multipliers of the word with the first symbols x
  abbrev pub true_multiplier : (ℕ → ℕ) → ℕ → ℕ
  true_multiplier x r = get_or (multipliers s x (k_of s)) r 0

  pub true_word : (x : ℕ → ℕ) (p : ℕ) → word_at s (true_multiplier x) p ≡ symbol s x p
  unfolding symbol
  true_word x p = refl

  -- where the first k symbols are 0, all are
  pub symbol_zeros : (x : ℕ → ℕ) → ((r : ℕ) → x r < 256) → ((r : ℕ) → r < k_of s → x r ≡ 0) → (p : ℕ) → symbol s x p ≡ 0
  symbol_zeros x hx e p =
      sym (true_word x p)
      ∙ word_at_zeros s (true_multiplier x)
      (zero_multipliers s h (true_multiplier x) (multiplier_below s x hx (k_of s)) (k_of s) (omega arith)
      (λ q hq. true_word x q ∙ symbol_source s h x hx q hq ∙ e q hq)) p

  module _ (messages : ℕ → List ℕ) (b : (t j : ℕ) → get_or (messages t) j 0 < 256) where
    -- a symbol that travelled before slot 0 is 0
    pub symbol_early : (t i v p : ℕ) → t + p < i → symbol s (source s messages t i v) p ≡ 0
    symbol_early t i v p early =
        ⊎_elim
        (λ parity. symbol_zeros (source s messages t i v) (source_below s messages b t i v)
        (λ r hr. source_early s messages t i v r (omega arith)) p)
        (λ own. symbol_source s h (source s messages t i v) (source_below s messages b t i v) p own
        ∙ source_early s messages t i v p early)
        (le_or_lt (k_of s) p)

    -- symbol i of the codeword that starts at t - i is message t's
    pub symbol_own : (t i v : ℕ) → i < k_of s → symbol s (source s messages t i v) i ≡ get_or (messages t) (i * s.lanes + v) 0
    symbol_own t i v hi =
        symbol_source s h (source s messages t i v) (source_below s messages b t i v) i hi
        ∙ source_at_lem s messages t i v i (omega arith)
        ∙ ap (λ (m : ℕ). get_or (messages m) (i * s.lanes + v) 0) (omega arith)

    -- a codeword's symbol p is the one that its slot sends
    pub symbol_slot : (t i v p : ℕ) → i ≤ t + p → symbol s (source s messages (t + p - i) p v) p ≡ symbol s (source s messages t i v) p
    symbol_slot t i v p from =
        symbol_equal s (source s messages (t + p - i) p v) (source s messages t i v)
        (λ r hr. source_slot s messages t i v p r from) p
