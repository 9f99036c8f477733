-- Elimination of the systematic form over the known positions, as lists, and what it says of a symbol. The known sources are pivots
-- from the start, so only the parity positions are worked through.
use Rattle.std.specs.Prelude.{◌≡◌, Bool, true, false, cond, not, ◌&&◌, List, [], ℕ, zero, suc, ◌+◌, ◌<◌, eqb, ltb, get_or, set}
use Rattle.galois.specs.Bounded.{any}
use Rattle.galois.specs.Byte.{◌⊕◌, ◌⊗◌, quotient}
use Rattle.galois.specs.Sum.{sum}
use Rattle.code.specs.declared.settings.Settings.{Settings}
use Rattle.code.specs.Settings.{accepted, k_of, n_of}
use Rattle.code.specs.Word.{systematic_of}
use Rattle.galois.specs.Table.{table}
use Rattle.elimination.specs.declared.lane.Symbol.{Symbol}
use Rattle.elimination.specs.declared.lane.Symbol.TheVariants.{Clash, Lost, Whole}
use Rattle.elimination.specs.declared.reduced.Reduced.{Reduced}

-- the entry at row r and position p
unfoldable pub cell : List (List ℕ) → ℕ → ℕ → ℕ
cell m r p = get_or (get_or m r []) p 0

-- a row that is no pivot has the role 16; a pivot has its position
unfoldable pub free : List ℕ → ℕ → Bool
free roles r = eqb (get_or roles r 16) 16

-- the first of the m rows from r on that is free and not 0 at position p, or 16
unfoldable pub pivot_from : Reduced → ℕ → ℕ → ℕ → ℕ
pivot_from x p r zero = 16
pivot_from x p r (suc m) =
    elim (free x.roles r && not (eqb (cell x.rows r p) 0)) [ true ↦ r | false ↦ pivot_from x p (suc r) m ]

-- row r scaled to 1 at position p, at position j
unfoldable pub scaled_at : List (List ℕ) → ℕ → ℕ → ℕ → ℕ
scaled_at m r p j = quotient (cell m r j) (cell m r p)

-- row r scaled to 1 at position p, and position p cleared from every other of the first k rows; the rows from k on stay
unfoldable pub cleared : ℕ → List (List ℕ) → ℕ → ℕ → List (List ℕ)
cleared k m r p =
    table 16
    (λ q.
    cond (ltb q k)
    (table 16 (λ j. cond (eqb q r) (scaled_at m r p j) (cell m q j ⊕ cell m q p ⊗ scaled_at m r p j)))
    (get_or m q []))

-- row r becomes the pivot of position p, unless r is 16
unfoldable pub pivoted : ℕ → Reduced → ℕ → ℕ → Reduced
pivoted k x r p =
    elim (ltb r 16) [
      | true ↦ record { rows = cleared k x.rows r p; roles = set x.roles r p }
      | false ↦ x
    ]

-- one position: its pivot, if it is known and some row can be one
unfoldable pub column_step : ℕ → Bool → ℕ → Reduced → Reduced
column_step k known p x = elim known [ true ↦ pivoted k x (pivot_from x p 0 k) p | false ↦ x ]

-- the roles at the start: a known source is the pivot of its own row
unfoldable pub first_roles : Settings → (ℕ → Bool) → List ℕ
first_roles s known = table 16 (λ r. cond (ltb r (k_of s) && known r) r 16)

-- a matrix and its rows' roles with the first e parity positions done
unfoldable pub columns : Settings → (ℕ → Bool) → Reduced → ℕ → Reduced
columns s known x zero = x
columns s known x (suc e) = column_step (k_of s) (known (k_of s + e)) (k_of s + e) (columns s known x e)

-- the systematic form, with each known source the pivot of its own row
abbrev pub started : Settings → (ℕ → Bool) → Reduced
started s known = record { rows = systematic_of s; roles = first_roles s known }

-- the systematic form with all parity positions done
unfoldable pub eliminated : Settings → (ℕ → Bool) → Reduced
eliminated s known = columns s known (started s known) s.burst

-- the sum of the pivots' rows, each by the byte at its position, at position q
unfoldable pub combined : Settings → Reduced → (ℕ → ℕ) → ℕ → ℕ
combined s x byte q =
    sum (k_of s) (λ r. cond (free x.roles r) 0 (byte (get_or x.roles r 16) ⊗ cell x.rows r q))

-- at some known position that sum is not the byte that arrived
unfoldable pub clashes : Settings → Reduced → (ℕ → Bool) → (ℕ → ℕ) → Bool
clashes s x known byte = any (n_of s) (λ q. known q && not (eqb (combined s x byte q) (byte q)))

-- some row that is no pivot is not 0 at position i
unfoldable pub differs : Settings → Reduced → ℕ → Bool
differs s x i = any (k_of s) (λ r. free x.roles r && not (eqb (cell x.rows r i) 0))

-- what elimination says of position i
unfoldable pub symbol_of : Settings → Reduced → (ℕ → Bool) → (ℕ → ℕ) → ℕ → Symbol
symbol_of s x known byte i =
    elim (clashes s x known byte) [
      | true ↦ Clash
      | false ↦ elim (differs s x i) [ true ↦ Lost | false ↦ Whole (combined s x byte i) ]
    ]

-- the positions below n whose flag is 1 are known
unfoldable pub known_in : Settings → List ℕ → ℕ → Bool
known_in s flags p = ltb p (n_of s) && eqb (get_or flags p 0) 1

-- elimination over the flags of the parity positions; for settings that are not accepted nothing is done
unfoldable pub reduced_from : Settings → Reduced → List ℕ → Reduced
reduced_from s x flags = elim (accepted s) [ true ↦ columns s (known_in s flags) x s.burst | false ↦ x ]

-- elimination of the systematic form over the flags of all positions
unfoldable pub reduced_of : Settings → List ℕ → Reduced
reduced_of s flags = reduced_from s (started s (known_in s flags)) flags

-- ---- the flags that are left to be checked

-- what is left of the flag of position p: 0 where it becomes a pivot
unfoldable pub left_flag : ℕ → Bool → ℕ → Reduced → ℕ → ℕ
left_flag k known p x flag = cond (known && ltb (pivot_from x p 0 k) 16) 0 flag

-- the flags after the first e parity positions
unfoldable pub left_after : Settings → Reduced → List ℕ → ℕ → List ℕ
left_after s x flags zero = flags
left_after s x flags (suc e) =
    set (left_after s x flags e) (k_of s + e)
    (left_flag (k_of s) (known_in s flags (k_of s + e)) (k_of s + e) (columns s (known_in s flags) x e) (get_or flags (k_of s + e) 0))

-- the flags after elimination; for settings that are not accepted they stay
unfoldable pub left_from : Settings → Reduced → List ℕ → List ℕ
left_from s x flags = elim (accepted s) [ true ↦ left_after s x flags s.burst | false ↦ flags ]

-- position q is that of a pivot
pub record Solved (s : Settings) (roles : List ℕ) (q : ℕ) : Type 0 where
  pub row : ℕ
  pub below : row < k_of s
  pub role : get_or roles row 0 ≡ q
  pub inside : q < 16
