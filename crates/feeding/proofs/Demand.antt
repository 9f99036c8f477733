-- Demand 3 of reports that were fed from an accepted pair: `pair-faithful-demand3` and `pair_demand3`, whose statements are
-- `PairFaithfulDemand3` and `PairDemand3` of specs/Fed.antt.
use mathlib.Core.Path.{◌≡◌, sym, ◌∙◌, subst}
use mathlib.Core.Logic.{⊎_elim}
use mathlib.Core.List.{List, Memᴰ}
use Prim.Native.Nat.{ℕ, ◌≤◌}
use native.Mathlib.Omega.{arith}
use lib.Dec.{T}
use Rattle.galois.proofs.Cases.{le_or_lt}
use Rattle.code.specs.declared.settings.Settings.{Settings}
use Rattle.repair.proofs.FairLaws.{fewer_fair}
use Rattle.protocol.specs.Calls.{OpenedSender, open_sender_of, OpenedReceiver, open_receiver_of}
use Rattle.protocol.specs.TwoLists.{SendMade, sends, Report, heard, missed, ReportMade}
use Rattle.protocol.specs.Histories.{SentAs, accepts, lost_at, lost_since}
use Rattle.protocol.specs.Claim.{Faithful, Holds, Demand3}
use Rattle.protocol.proofs.SlotReports.{reported_to_lem, lost_before, lost_from}
use Rattle.protocol.proofs.Demand.{demand3}
use Rattle.aerials.specs.Pair.{pair_cause}
use Rattle.aerials.proofs.PairLaws.{checked}
use Rattle.feeding.specs.Fed.{fed, neither, SendersOwn, HoldsOfPair, PairDemand3, PairFaithfulDemand3}
use Rattle.feeding.proofs.Lending.{of_either}
use Rattle.feeding.proofs.Feeding.{FedFrom, opened_fed, FedCall, as_lost, as_heard, call_in, fed_lost}

-- a report is of a loss or of a frame, and not of both
not-both : (c : Report) (message frame buffer : List ℕ) → c ≡ missed message → c ≡ heard frame buffer → ⊥
not-both c message frame buffer p q = let z : ◌≡◌ {A = ℕ} 0 1 = cc in omega arith

-- an accepted pair, and reports that were fed from it
module _ (s : Settings) (first second : List ℕ) (ok : pair_cause s first second ≡ 0)
    {d : ℕ} {told : List ReportMade} (list : FedFrom s first second d told) where
  -- where the frames of both recordings are the sender's, so are those that were heard
  faithful : (sent : List SendMade) → SendersOwn s sent first → SendersOwn s sent second → Faithful sent told
  unfolding Faithful SendersOwn
  faithful sent one two r f m listed e passed = by (call_in s first second ok list r listed)
    where
      by : FedCall s first second r → (message : List ℕ) × SentAs sent r.before.due message f
      by (as_lost message none is) = absurd (not-both r.call message f m is e)
      by (as_heard frame message some is its) =
          let same : frame ≡ f = cc in
          let (given, own) = of_either (SendersOwn s sent) one two its.whose its.number its.within in
          (given, rw (← same, its.is) (rw its.stands at own))

  -- up to the slot of an accepted report, the slots that were lost are those that neither has
  lost_alike : (r : ReportMade) → Memᴰ r told → T (accepts r.after.reply) → (y : ℕ) → y ≤ r.before.due
      → lost_since d (lost_at told) y ≡ lost_since d (neither s first second) y
  lost_alike r listed passed y high =
      ⊎_elim
      (λ from.
      let (call, a) = reported_to_lem list.chain r listed passed y from (omega arith) in
      lost_from d (lost_at told) y from
      ∙ (rw a.slot at (fed_lost s first second ok list a.report a.listed a.passed))
      ∙ sym (lost_from d (neither s first second) y from))
      (λ early. lost_before d (lost_at told) y early ∙ sym (lost_before d (neither s first second) y early)) (le_or_lt d y)

  -- what demand 3 says of them it says in terms of the pair
  of_pair : (sent : List SendMade) → Holds s d sent told → HoldsOfPair s d first second sent told
  of_pair sent holds = record {
    demand3 = holds;
    on_time = λ t r listed slot passed fair.
        holds.on_time t r listed slot passed
        (fewer_fair s (lost_since d (lost_at told)) (lost_since d (neither s first second)) _ _
        (λ y low high lost. subst T (lost_alike r listed passed y (omega arith)) lost) fair);
  }

-- all of it
pub pair_faithful_demand3 : PairFaithfulDemand3
unfolding PairFaithfulDemand3 Demand3
pair_faithful_demand3 s first second ok opening in_time_lem sender_rows receiver_rows sends-exact reports-exact send_calls bytes messages
    own =
    let a : OpenedSender = open_sender_of s sender_rows in
    let b : OpenedReceiver = open_receiver_of s opening receiver_rows in
    let sent : List SendMade = sends a.sender a.rows send_calls in
    of_pair s first second ok (opened_fed s first second ok opening in_time_lem receiver_rows reports-exact messages) sent
    (demand3 s (checked s first second ok).settings opening in_time_lem sender_rows receiver_rows sends-exact reports-exact send_calls bytes
    (fed s first second b.receiver b.rows messages) own)

-- with recordings of the sender's frames
pub pair_demand3 : PairDemand3
unfolding PairFaithfulDemand3 PairDemand3
pair_demand3 s first second ok opening in_time_lem sender_rows receiver_rows sends-exact reports-exact send_calls bytes messages one two =
    let a : OpenedSender = open_sender_of s sender_rows in
    let list = opened_fed s first second ok opening in_time_lem receiver_rows reports-exact messages in
    pair_faithful_demand3 s first second ok opening in_time_lem sender_rows receiver_rows sends-exact reports-exact send_calls bytes
    messages
    (faithful s first second ok list (sends a.sender a.rows send_calls) one two)
