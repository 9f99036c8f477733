-- The parity symbols of a frame, written one after another.
use mathlib.Core.Path.{◌≡◌, sym, ap, ap₂, ◌∙◌}
use mathlib.Core.List.{List, ◌++◌, append-nil}
use Prim.Native.Nat.{ℕ, zero, suc, ◌+◌, ◌*◌, ◌≤◌}
use native.Mathlib.Nat.{zero-mul, suc-mul}
use native.Mathlib.Numerals.{add-one}
use native.Mathlib.Omega.{arith}
use lib.ListN.{length, take, drop, length-append, drop_of_length-le}
use lib.Seq.{take_at, drop_at, drop-drop}
use Rattle.galois.proofs.ByIndex.{length-table}
use Rattle.code.specs.declared.settings.Settings.{Settings}
use Rattle.code.specs.Settings.{k_of}
use Rattle.parity.specs.Parities.{parity_of, parities_of}

module _ (s : Settings) (rows : List ℕ) (t : ℕ) where
  -- a byte for each lane
  parity_length : (p : ℕ) → length (parity_of s rows t p) ≡ s.lanes
  unfolding parity_of
  parity_length p = length-table s.lanes _

  pub parities_length : (m : ℕ) → length (parities_of s rows t m) ≡ m * s.lanes
  unfolding parities_of
  parities_length zero = sym (zero-mul s.lanes)
  parities_length (suc m) =
      length-append (parities_of s rows t m) (parity_of s rows t (k_of s + m))
      ∙ ap₂ ◌+◌ (parities_length m) (parity_length (k_of s + m))
      ∙ sym (suc-mul m s.lanes)

  -- one more is written after those before it
  pub parities_more : (m : ℕ) (was out part : List ℕ) → out ≡ parities_of s rows t m ++ drop (m * s.lanes) was
      → part ≡ parity_of s rows t (k_of s + m)
      → take (m * s.lanes) out ++ part ++ drop (m * s.lanes + length part) out
      ≡ parities_of s rows t (m + 1) ++ drop ((m + 1) * s.lanes) was
  unfolding parities_of
  parities_more m was out part is-out is-part =
      let place : ℕ = m * s.lanes in
      let done : List ℕ = parities_of s rows t m in
      let end : place + length part ≡ (m + 1) * s.lanes =
      ap (λ (l : List ℕ). place + length l) is-part ∙ ap (λ (n : ℕ). place + n) (parity_length (k_of s + m))
      ∙ sym (suc-mul m s.lanes) ∙ ap (λ (n : ℕ). n * s.lanes) (sym (add-one m)) in
      let rest : drop (place + length part) out ≡ drop ((m + 1) * s.lanes) was =
      ap (drop (place + length part)) is-out
      ∙ sym (drop-drop (length part) place (done ++ drop place was))
      ∙ ap (drop (length part)) (drop_at done (drop place was) place (parities_length m))
      ∙ drop-drop (length part) place was
      ∙ ap (λ (n : ℕ). drop n was) end in
      ap₂ ◌++◌ (ap₂ ◌++◌ (ap (take place) is-out ∙ take_at done (drop place was) place (parities_length m)) is-part) rest
      ∙ ap (λ (n : ℕ). parities_of s rows t n ++ drop ((m + 1) * s.lanes) was) (sym (add-one m))

  -- all are written
  pub parities_all : (m : ℕ) (was out : List ℕ) → length was ≡ m * s.lanes → out ≡ parities_of s rows t m ++ drop (m * s.lanes) was
      → out ≡ parities_of s rows t m
  parities_all m was out long is-out =
      let none : length was ≤ m * s.lanes = omega arith in
      is-out ∙ ap (λ (l : List ℕ). parities_of s rows t m ++ l) (drop_of_length-le was none) ∙ append-nil (parities_of s rows t m)
