-- What bytes say of themselves: settings and a slot, from a place on; and a frame, by its header.
use Rattle.std.specs.Prelude.{not, List, [], ◌∷◌, ℕ, ◌+◌, ◌*◌, ltb, get_or, length}
use Rattle.code.specs.declared.settings.Settings.{Settings}
use Rattle.protocol.specs.declared.Cause.TheVariants.{BadLength, OtherMark}
use Rattle.protocol.specs.Answers.{Answer}
use Rattle.protocol.specs.Frame.{mark}
use Rattle.protocol.specs.Causes.{Row, row, first_of, agree}

-- W, T, B, N and L, from the place `start`
unfoldable pub settings_at : ℕ → List ℕ → Settings
settings_at start bytes = record {
  window = get_or bytes start 0;
  delay = get_or bytes (start + 1) 0;
  burst = get_or bytes (start + 2) 0;
  scattered = get_or bytes (start + 3) 0;
  lanes = get_or bytes (start + 4) 0;
}

-- a slot in 32 bits, high byte first, from the place `start`
unfoldable pub slot_at : ℕ → List ℕ → ℕ
slot_at start bytes =
    ((get_or bytes start 0 * 256 + get_or bytes (start + 1) 0) * 256 + get_or bytes (start + 2) 0) * 256 + get_or bytes (start + 3) 0

-- ---- a frame

-- its settings: bytes 5 to 9
abbrev pub settings_in : List ℕ → Settings
settings_in frame = settings_at 5 frame

-- its slot: bytes 10 to 13
abbrev pub slot_in : List ℕ → ℕ
slot_in frame = slot_at 10 frame

-- bytes whose slot is to be read: fewer than a header has are 2, and another mark or version is 4
abbrev pub slot_read_table : List ℕ → List Row
slot_read_table frame =
    row (ltb (length frame) 14) BadLength
    ∷ row (not (agree 5 frame (mark 1))) OtherMark
    ∷ []

unfoldable pub slot_read_cause : List ℕ → Answer
slot_read_cause frame = first_of (slot_read_table frame)
