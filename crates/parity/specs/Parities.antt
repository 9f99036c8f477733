-- The parity symbols of a frame, from the messages that the sender's rows hold.
use Rattle.std.specs.Prelude.{List, [], ◌++◌, ℕ, zero, suc, ◌+◌, ◌-◌}
use Rattle.galois.specs.Table.{table}
use Rattle.code.specs.declared.settings.Settings.{Settings}
use Rattle.code.specs.Settings.{k_of}
use Rattle.code.specs.Word.{symbol}
use Rattle.protocol.specs.Frame.{remembered}

-- symbol p of every lane in slot t, for p at or past k
unfoldable pub parity_of : Settings → List ℕ → ℕ → ℕ → List ℕ
parity_of s rows t p = table s.lanes (λ v. symbol s (λ i. remembered s rows t (p - i) i v) p)

-- the first m parity symbols, one after another
unfoldable pub parities_of : Settings → List ℕ → ℕ → ℕ → List ℕ
parities_of s rows t zero = []
parities_of s rows t (suc m) = parities_of s rows t m ++ parity_of s rows t (k_of s + m)
