-- A recording is frames of one length, back to back. What stands at an offset of it: a frame, fewer bytes than a frame, or the end.
use Rattle.std.specs.Prelude.{true, false, ◌||◌, List, ℕ, ◌+◌, ◌-◌, eqb, leb, ltb, length}
use Rattle.recording.specs.declared.Found.{Found}
use Rattle.recording.specs.declared.Found.TheVariants.{Frame, Part, End}

-- what stands at an offset, for frames of a size; no frame has the size 0
unfoldable pub found_at : List ℕ → ℕ → ℕ → Found
found_at recording offset size =
    elim (leb (length recording) offset) [
      | true ↦ End
      | false ↦ elim (eqb size 0 || ltb (length recording - offset) size) [
        | true ↦ Part
        | false ↦ Frame offset (offset + size)
      ]
    ]
