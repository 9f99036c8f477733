-- Demand 2, for one codeword: the bytes that the fitting words have at a position, by trying all words.
use Rattle.std.specs.Prelude.{Bool, cond, ◌&&◌, List, [], ◌∷◌, ◌++◌, ℕ, zero, suc, eqb, get_or}
use Rattle.galois.specs.Bounded.{any}
use Rattle.code.specs.declared.settings.Settings.{Settings}
use Rattle.code.specs.Settings.{k_of}
use Rattle.code.specs.Word.{word_at}
use Rattle.code.specs.Fitting.{Arrived, fits}
use Rattle.elimination.specs.declared.lane.Symbol.{Symbol}
use Rattle.elimination.specs.declared.lane.Symbol.TheVariants.{Clash, Lost, Whole}

-- the test passes at some list of m bytes
unfoldable pub any_bytes : ℕ → (List ℕ → Bool) → Bool
any_bytes zero f = f []
any_bytes (suc m) f = any 256 (λ b. any_bytes m (λ l. f (b ∷ l)))

-- the numbers below m at which the test passes, in order
unfoldable pub passing : ℕ → (ℕ → Bool) → List ℕ
passing zero f = []
passing (suc m) f = passing m f ++ cond (f m) (m ∷ []) []

-- some word that fits has the byte b at position i
unfoldable pub has_value : Settings → Arrived → ℕ → ℕ → Bool
has_value s a i b =
    any_bytes (k_of s) (λ l. fits s a (λ r. get_or l r 0) && eqb (word_at s (λ r. get_or l r 0) i) b)

-- the bytes that the fitting words have at position i
unfoldable pub values : Settings → Arrived → ℕ → List ℕ
values s a i = passing 256 (has_value s a i)

-- none of them is a clash, several are lost, one is the byte they share
abbrev pub said : List ℕ → Symbol
said [] = Clash
said (b ∷ []) = Whole b
said (b ∷ c ∷ l) = Lost
