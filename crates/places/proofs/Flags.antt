-- The flags of the word's positions: those of all of them, and those of the parity positions.
use mathlib.Core.Path.{◌≡◌, ◌∙◌}
use mathlib.Core.Bool.{cond, ◌&&◌}
use mathlib.Core.List.{List}
use Prim.Native.Nat.{ℕ, ◌+◌, ◌≤◌, ◌<◌}
use native.Mathlib.Omega.{arith}
use borrow.Author.Tests.{lt-ltb, le-ltb}
use lib.Dec.{eqb, ltb}
use lib.ListN.{length, get_or}
use Rattle.galois.proofs.ByIndex.{length-table, get_or-table}
use Rattle.code.specs.declared.settings.Settings.{Settings}
use Rattle.code.specs.Settings.{k_of, n_of}
use Rattle.code.proofs.Shape.{Shape}
use Rattle.protocol.specs.Verdict.{row_at}
use Rattle.places.specs.Places.{known_flag, flags_of, parity_flags}
use Rattle.places.proofs.Filled.{up_to, up_below}

-- the flag at a parity position, and 0 at a source
abbrev pub parity_flag : Settings → List ℕ → ℕ → ℕ
parity_flag s flags q = cond (ltb q (k_of s)) 0 (get_or flags q 0)

-- the role of a row at the start, by the flag of its position
abbrev pub first_role : Settings → List ℕ → ℕ → ℕ
first_role s flags p = cond (ltb p (k_of s) && eqb (get_or flags p 0) 1) p 16

pub parity_length : (s : Settings) (flags : List ℕ) → length (parity_flags s flags) ≡ 16
unfolding parity_flags
parity_length s flags = length-table 16 (up_to 0 (n_of s) (parity_flag s flags))

module _ (s : Settings) (h : Shape s) where
  pub flag_at : (t i p : ℕ) → p < n_of s → (rows : List ℕ) (end : ℕ)
      → get_or (flags_of s rows end t i) p 0 ≡ known_flag rows end (t + p) (row_at s t i p)
  unfolding flags_of
  flag_at t i p below rows end =
      let flag : ℕ → ℕ = λ p. known_flag rows end (t + p) (row_at s t i p) in
      get_or-table 16 (up_to 0 (n_of s) flag) p 0 (omega (arith, h.symbols_few)) ∙ up_below 0 (n_of s) flag p below

  parity_at : (flags : List ℕ) (q : ℕ) → q < n_of s → get_or (parity_flags s flags) q 0 ≡ parity_flag s flags q
  unfolding parity_flags
  parity_at flags q below =
      get_or-table 16 (up_to 0 (n_of s) (parity_flag s flags)) q 0 (omega (arith, h.symbols_few))
      ∙ up_below 0 (n_of s) (parity_flag s flags) q below

  -- the flag stays at a parity position
  pub at_parity : (flags : List ℕ) (q : ℕ) → k_of s ≤ q → q < n_of s → get_or (parity_flags s flags) q 0 ≡ get_or flags q 0
  at_parity flags q past below = parity_at flags q below ∙ rw (le-ltb q (k_of s) past)

  -- and is 0 at a source
  pub at_source : (flags : List ℕ) (q : ℕ) → q < k_of s → get_or (parity_flags s flags) q 0 ≡ 0
  at_source flags q source = parity_at flags q (omega arith) ∙ rw (lt-ltb q (k_of s) source)
