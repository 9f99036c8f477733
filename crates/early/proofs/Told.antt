-- What a call tells over the true history: `each_told_truly`, whose statement is `EachToldTruly` of specs/Told.antt.
use mathlib.Core.List.{List}
use Prim.Native.Nat.{ℕ}
use Rattle.code.specs.declared.settings.Settings.{Settings}
use Rattle.protocol.specs.Calls.{row_before}
use Rattle.protocol.specs.TwoLists.{ReportMade}
use Rattle.protocol.proofs.CauseTables.{OpensAt}
use Rattle.protocol.proofs.ReportChain.{opened_receiver_lem}
use Rattle.protocol.proofs.ReportMeaning.{tells}
use Rattle.protocol.proofs.ReceivedRows.{Begun}
use Rattle.protocol.proofs.Arrivals.{known_came}
use Rattle.early.specs.Mixed.{CallMade}
use Rattle.early.specs.Early.{Telling, reported_to}
use Rattle.early.specs.Told.{ToldTruly, EachToldTruly}
use Rattle.early.proofs.Points.{Point, mixed_begun, mixed_standing}

-- at a point of the reports
truly_at : {s : Settings} {d : ℕ} {told : List ReportMade} (begun : Begun s (row_before s) d told) (made : List CallMade) (t : ℕ)
    (m : CallMade) → Telling s made t m → Point begun m → ToldTruly s told t m
truly_at {s} begun made t m telling point =
    let (by, own, in_time_lem) = point.tells t telling.taken telling.for_it in
    record {
      tells = tells s m.after.rows (reported_to m) t _ _ by;
      history = λ i v p byte hi hv hp. known_came point.left t in_time_lem i p v hi hp hv byte;
    }

-- document 02 §6, over the true history. Wrong look-ups that agree with themselves, and what in the statement rules each out:
-- - one that tells by the frames of later slots, or by the row of the slot due: `history` has the slots below the slot due alone
-- - one that takes a slot before the opening for received, or forgets a heard one: `history` has every position known exactly as it came
pub each_told_truly : EachToldTruly
unfolding EachToldTruly
each_told_truly s ok opening in_time_lem rows exact cs =
    let opens : OpensAt s opening rows = record { settings = ok; exact = exact; in_time_lem = in_time_lem } in
    rw (opened_receiver_lem s opening rows opens)
    (λ t m telling.
    truly_at (mixed_begun s opening ok cs) _ t m telling ((mixed_standing s opening ok cs).each m telling.listed).0)
