-- Document 01, demand 2: the words that fit what arrived of a codeword.
use Rattle.std.specs.Prelude.{Bool, not, ◌||◌, ℕ, eqb}
use Rattle.galois.specs.Bounded.{every}
use Rattle.code.specs.declared.settings.Settings.{Settings}
use Rattle.code.specs.Settings.{n_of}
use Rattle.code.specs.Word.{word_at}

-- what arrived of a codeword: whether position p did, and its byte
pub record Arrived : Type 0 where
  pub known : ℕ → Bool
  pub byte : ℕ → ℕ

-- the word of the multipliers u fits what arrived
unfoldable pub fits : Settings → Arrived → (ℕ → ℕ) → Bool
fits s a u = every (n_of s) (λ p. not (a.known p) || eqb (word_at s u p) (a.byte p))
