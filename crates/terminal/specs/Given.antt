-- What a report is given, as one report of the lists.
use Rattle.std.specs.Prelude.{Bool, true, false, List, ℕ}
use Rattle.protocol.specs.TwoLists.{Report, heard, missed}

-- a frame where it was heard, else a loss, which has no frame to read
unfoldable pub report_in : Bool → List ℕ → List ℕ → Report
report_in true frame message = heard frame message
report_in false frame message = missed message
