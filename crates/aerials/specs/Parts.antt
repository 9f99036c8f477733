-- Document 02 §7: the part of the first or the second recording that is lent for a slot.
use Rattle.std.specs.Prelude.{true, false, List, ℕ, zero, suc, ◌*◌, ltb, take, drop}
use Rattle.galois.specs.Bounded.{count}
use Rattle.code.specs.declared.settings.Settings.{Settings}
use Rattle.protocol.specs.Lengths.{frame_len}
use Rattle.aerials.specs.Pair.{frames_in, slot_of, has, pair_cause}

-- the aerials
pub data Aerial : Type 0 where
  one : Aerial
  two : Aerial

-- what belongs to an aerial: the first's, or the second's
abbrev pub of_aerial : {A : Type 0} → Aerial → A → A → A
of_aerial one first second = first
of_aerial two first second = second

-- a part of a recording: whose it is, the byte where it begins, and how many bytes it has
pub record Part : Type 0 where
  pub whose : Aerial
  pub start : ℕ
  pub len : ℕ

-- its bytes
unfoldable pub bytes_of : List ℕ → List ℕ → Part → List ℕ
bytes_of first second p = take p.len (drop p.start (of_aerial p.whose first second))

-- an empty part stands at the first recording's start
abbrev pub no_part : Part
no_part = record { whose = one; start = 0; len = 0 }

-- how many frames of a recording stand for slots below this one; where slots rise, the frame of the slot comes next
unfoldable pub below : Settings → List ℕ → ℕ → ℕ
below s recording slot = count (frames_in s recording) (λ i. ltb (slot_of s recording i) slot)

-- the frame of this slot in the recording of an aerial
abbrev pub frame_part : Settings → Aerial → List ℕ → ℕ → Part
frame_part s whose recording slot = record { whose = whose; start = below s recording slot * frame_len s; len = frame_len s }

-- of an accepted pair: the first's frame where it has the slot, else the second's, else an empty part
unfoldable pub part_of : Settings → List ℕ → List ℕ → ℕ → Part
part_of s first second slot =
    elim (has s first slot) [
      | true ↦ frame_part s one first slot
      | false ↦ elim (has s second slot) [ true ↦ frame_part s two second slot | false ↦ no_part ]
    ]

-- of any pair: an empty part for a refused one
unfoldable pub join_of : Settings → List ℕ → List ℕ → ℕ → Part
join_of s first second slot = elim (pair_cause s first second) [ zero ↦ part_of s first second slot | suc _ ↦ no_part ]
