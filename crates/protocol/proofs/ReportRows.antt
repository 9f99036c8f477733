-- What an accepted report writes and answers: a row of the exact length, and never a refusal.
use Rattle.std.specs.Prelude.{Ok}
use mathlib.Core.Path.{◌≡◌}
use mathlib.Core.Bool.{Bool, true, false, cond}
use mathlib.Core.List.{List}
use Prim.Native.Nat.{ℕ, ◌+◌, ◌-◌, ◌%◌}
use native.Mathlib.Omega.{arith}
use lib.Dec.{T, ltb}
use lib.ListN.{length, drop, length-drop, length-replicate}
use Rattle.code.specs.declared.settings.Settings.{Settings}
use Rattle.code.specs.Settings.{delay_of}
use Rattle.protocol.specs.declared.Receiver.{Receiver}
use Rattle.protocol.specs.Answers.{Reply}
use Rattle.protocol.specs.declared.Told.TheVariants.{NoneYet, Whole, Lost, Clash}
use Rattle.protocol.specs.Lengths.{body_len, frame_len, row_len, row_count}
use Rattle.protocol.specs.Rows.{put_row}
use Rattle.protocol.specs.Verdict.{none_fits, two_differ, verdict}
use Rattle.protocol.specs.Calls.{message_due, moved_on}
use Rattle.protocol.specs.TwoLists.{Report, heard, missed, row_of}
use Rattle.protocol.specs.Histories.{accepts}
use Rattle.protocol.specs.Claim.{NoCause}

-- the row that an accepted report writes has the rows' length
pub length-row_of : (s : Settings) (due : ℕ) (call : Report) → NoCause s due call → length (row_of s call) ≡ row_len s
unfolding row_of row_len frame_len
length-row_of s due (heard frame message) h =
    let long : length frame ≡ 14 + body_len s = h.1 in
    let rest : length (drop 14 frame) ≡ length frame - 14 = length-drop 14 frame in
    omega arith
length-row_of s due (missed message) h = length-replicate (1 + body_len s) 0

-- of two replies that accept, the one chosen accepts
either : (b : Bool) (p q : Reply) → T (accepts p) → T (accepts q) → T (accepts (cond b p q))
either true p q hp hq = hp
either false p q hp hq = hq

-- a verdict is no refusal
pub verdict_accepts : (s : Settings) (rows : List ℕ) (due t : ℕ) → T (accepts (verdict s rows due t))
unfolding verdict
verdict_accepts s rows due t =
    let lost : Bool = two_differ s rows due t in
    either (none_fits s rows due t) (Ok Clash) (cond lost (Ok Lost) (Ok Whole)) tt (either lost (Ok Lost) (Ok Whole) tt tt)

-- a report that moves on is never refused
pub moved_accepts : (x : Receiver) (row rows : List ℕ) → T (accepts (moved_on x row rows).reply)
unfolding moved_on
moved_accepts x row rows =
    let s = x.settings in
    let now : List ℕ = put_row (row_len s) (x.due % row_count s) row rows in
    let t : ℕ = message_due s x.due in
    either (ltb x.due (delay_of s)) (Ok NoneYet) (verdict s now (x.due + 1) t) tt (verdict_accepts s now (x.due + 1) t)
