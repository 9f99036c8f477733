-- What elimination says of the flags and bytes that were read out of the rows is what the fitting words say.
use mathlib.Core.Path.{◌≡◌, refl, sym, ap, ◌∙◌}
use mathlib.Core.Bool.{Bool, true, false, cond, ◌&&◌}
use mathlib.Core.List.{List}
use mathlib.Core.Logic.{◌⊎◌, inl, inr}
use Prim.Native.Nat.{ℕ, ◌+◌, ◌*◌, ◌<◌}
use native.Mathlib.Omega.{arith}
use borrow.Author.Tests.{lt-ltb}
use lib.Arith.{digits_div, digits_mod}
use lib.Dec.{T, eqb, ltb}
use lib.ListN.{get_or}
use Rattle.code.specs.declared.settings.Settings.{Settings}
use Rattle.code.specs.Settings.{accepted, k_of, n_of}
use Rattle.code.proofs.Shape.{shape}
use Rattle.elimination.specs.Elimination.{symbol_of, known_in, eliminated}
use Rattle.elimination.specs.Values.{said}
use Rattle.elimination.proofs.LaneDecided.{symbol_decided}
use Rattle.shares.specs.Shares.{lane_byte}
use Rattle.shares.proofs.Shares.{lane_inside}
use Rattle.protocol.specs.Verdict.{row_at, reported_at, arrived, symbol_said, whole_byte}
use Rattle.places.specs.Places.{places_of, known_flag, flags_of}
use Rattle.places.proofs.Flags.{flag_at}
use Rattle.places.proofs.Places.{place_at}
use Rattle.symbols.specs.Decision.{shared_byte}
use Rattle.symbols.proofs.SameValues.{same_values}

flag_read : (b : Bool) → eqb (cond b 1 0) 1 ≡ b
flag_read true = refl
flag_read false = refl

flag_two : (b : Bool) → let flag : ℕ = cond b 1 0 in (flag ≡ 0) ⊎ (flag ≡ 1)
flag_two true = inr refl
flag_two false = inl refl

-- a lane's bytes are bytes
byte_below : (b : Bool) (x : ℕ) → x < 256 → cond b x 0 < 256
byte_below true x h = h
byte_below false x h = omega arith

pub lane_below : (s : Settings) (places rows : List ℕ) → ((q : ℕ) → get_or rows q 0 < 256) → (v p : ℕ) → lane_byte s places rows v p < 256
unfolding lane_byte
lane_below s places rows below v p = byte_below (ltb p (n_of s)) (get_or rows (get_or places p 0 + v) 0) (below (get_or places p 0 + v))

module _ (s : Settings) (passed : T (accepted s)) (rows : List ℕ) (due t i : ℕ) where
  -- a flag is 0 or 1
  pub flag_cases : (p : ℕ) → p < n_of s
      → (get_or (flags_of s rows (due + i) t i) p 0 ≡ 0) ⊎ (get_or (flags_of s rows (due + i) t i) p 0 ≡ 1)
  unfolding known_flag
  flag_cases p hp =
      rw (flag_at s (shape s passed) t i p hp rows (due + i))
      (flag_two (ltb (t + p) (due + i) && eqb (get_or rows (row_at s t i p) 0) 1))

  -- the positions known by the flags are those that arrived
  known_read : (v p : ℕ) → p < n_of s → known_in s (flags_of s rows (due + i) t i) p ≡ (arrived s rows due t i v).known p
  unfolding known_in known_flag arrived reported_at
  known_read v p hp =
      rw (lt-ltb p (n_of s) hp)
      (ap (λ (x : ℕ). eqb x 1) (flag_at s (shape s passed) t i p hp rows (due + i))
      ∙ flag_read ((arrived s rows due t i v).known p))

  -- and their bytes too
  byte_read : (v p : ℕ) → p < n_of s → lane_byte s (places_of s t i) rows v p ≡ (arrived s rows due t i v).byte p
  unfolding arrived
  byte_read v p hp =
      let place : get_or (places_of s t i) p 0 + v ≡ row_at s t i p + (1 + (p * s.lanes + v)) =
      omega (arith, place_at s (shape s passed) t i p hp) in
      sym (lane_inside s (places_of s t i) rows v p hp) ∙ ap (λ (at : ℕ). get_or rows at 0) place

  pub lane_said : ((q : ℕ) → get_or rows q 0 < 256) → i < k_of s → (v : ℕ)
      → let known = known_in s (flags_of s rows (due + i) t i) in
      symbol_of s (eliminated s known) known (lane_byte s (places_of s t i) rows v) i ≡ symbol_said s rows due t i v
  unfolding symbol_said
  lane_said below hi v =
      let h = shape s passed in
      let known : ℕ → Bool = known_in s (flags_of s rows (due + i) t i) in
      let byte : ℕ → ℕ = lane_byte s (places_of s t i) rows v in
      symbol_decided s passed (record { known = known; byte = byte }) (lane_below s (places_of s t i) rows below v) i (omega arith)
      ∙ ap said
      (same_values s (record { known = known; byte = byte }) (arrived s rows due t i v) (known_read v) (byte_read v) i)

-- byte i × L + v of the message is symbol i of lane v
pub byte_said : (s : Settings) (rows : List ℕ) (due t i v : ℕ) → v < s.lanes
    → whole_byte (symbol_said s rows due t i v) ≡ shared_byte s rows due t (i * s.lanes + v)
unfolding shared_byte
byte_said s rows due t i v h = rw (digits_div i h, digits_mod i h)
