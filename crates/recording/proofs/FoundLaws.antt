-- What stands at an offset, by where the offset is; and the other way, where the offset is by what stands there.
use mathlib.Core.Path.{◌≡◌, refl}
use mathlib.Core.Bool.{Bool, true, false}
use mathlib.Core.List.{List}
use Prim.Native.Nat.{ℕ, ◌+◌, ◌-◌, ◌≤◌, ◌<◌}
use native.Mathlib.Omega.{arith}
use lib.Dec.{eqb, leb, ltb}
use lib.ListN.{length}
use borrow.Author.Tests.{leb-true, leb-false, ltb-true, ltb-false, eqb-true, eqb-false, le-leb, lt-leb, lt-ltb, le-ltb, eq-eqb, ne_eqb}
use Rattle.recording.specs.declared.Found.TheVariants.{Frame, Part, End}
use Rattle.recording.specs.Found.{found_at}

-- the three answers, each with where the offset is
pub data Standing (recording : List ℕ) (offset size : ℕ) : Type 0 where
  ended : length recording ≤ offset → found_at recording offset size ≡ End → Standing recording offset size
  short : offset < length recording → (0 < size → length recording < offset + size)
      → found_at recording offset size ≡ Part → Standing recording offset size
  whole : 0 < size → offset + size ≤ length recording → found_at recording offset size ≡ Frame offset (offset + size)
      → Standing recording offset size

module _ (recording : List ℕ) (offset size : ℕ) where
  -- where no byte is left, the end
  pub end_stands : length recording ≤ offset → found_at recording offset size ≡ End
  unfolding found_at
  end_stands past = rw (le-leb (length recording) offset past, found_at)

  -- no frame has the size 0
  pub none_stands : offset < length recording → size ≡ 0 → found_at recording offset size ≡ Part
  unfolding found_at
  none_stands before none = rw (lt-leb (length recording) offset before, eq-eqb size 0 none, found_at)

  -- where fewer bytes are left than a frame has, a part
  pub part_stands : offset < length recording → 0 < size → length recording < offset + size
      → found_at recording offset size ≡ Part
  unfolding found_at
  part_stands before some few =
      rw (
        lt-leb (length recording) offset before,
        ne_eqb size 0 (λ e. omega arith),
        lt-ltb (length recording - offset) size (omega arith),
        found_at,
      )

  -- where a frame is left, that frame
  pub frame_stands : 0 < size → offset + size ≤ length recording
      → found_at recording offset size ≡ Frame offset (offset + size)
  unfolding found_at
  frame_stands some fits =
      rw (
        lt-leb (length recording) offset (omega arith),
        ne_eqb size 0 (λ e. omega arith),
        le-ltb (length recording - offset) size (omega arith),
        found_at,
      )

  -- every offset is one of the three
  pub standing : Standing recording offset size
  standing = past (leb (length recording) offset) refl
    where
      left : (b : Bool) → ltb (length recording - offset) size ≡ b → offset < length recording → 0 < size
          → Standing recording offset size
      left true e before some =
          let few : length recording < offset + size = omega (arith, ltb-true (length recording - offset) size e) in
          short before (λ _. few) (part_stands before some few)
      left false e before some =
          let fits : offset + size ≤ length recording = omega (arith, ltb-false (length recording - offset) size e) in
          whole some fits (frame_stands some fits)

      sized : (b : Bool) → eqb size 0 ≡ b → offset < length recording → Standing recording offset size
      sized true e before =
          let none : size ≡ 0 = eqb-true size 0 e in
          short before (λ some. omega arith) (none_stands before none)
      sized false e before =
          let not_none = eqb-false size 0 e in
          left (ltb (length recording - offset) size) refl before (omega arith)

      past : (b : Bool) → leb (length recording) offset ≡ b → Standing recording offset size
      past true e =
          let none_left = leb-true (length recording) offset e in
          ended none_left (end_stands none_left)
      past false e = sized (eqb size 0) refl (leb-false (length recording) offset e)

  -- where a frame is found, it is the one at the offset, and the recording has all of it
  pub frame_says : (start end : ℕ) → found_at recording offset size ≡ Frame start end
      → (start ≡ offset) × (end ≡ offset + size) × (offset + size ≤ length recording) × (0 < size)
  frame_says start end e =
      elim standing [
        | ended _ is ↦ let z : ◌≡◌ {A = ℕ} 0 1 = cc in absurd (omega arith)
        | short _ _ is ↦ let z : ◌≡◌ {A = ℕ} 0 1 = cc in absurd (omega arith)
        | whole some fits is ↦ (cc, cc, fits, some)
      ]

  -- where a part is found, a byte is left, but no frame
  pub part_says : found_at recording offset size ≡ Part
      → (offset < length recording) × (0 < size → length recording < offset + size)
  part_says e =
      elim standing [
        | ended _ is ↦ let z : ◌≡◌ {A = ℕ} 0 1 = cc in absurd (omega arith)
        | short before few is ↦ (before, few)
        | whole _ _ is ↦ let z : ◌≡◌ {A = ℕ} 0 1 = cc in absurd (omega arith)
      ]

  -- where the end is found, no byte is left
  pub end_says : found_at recording offset size ≡ End → length recording ≤ offset
  end_says e =
      elim standing [
        | ended past is ↦ past
        | short _ _ is ↦ let z : ◌≡◌ {A = ℕ} 0 1 = cc in absurd (omega arith)
        | whole _ _ is ↦ let z : ◌≡◌ {A = ℕ} 0 1 = cc in absurd (omega arith)
      ]
