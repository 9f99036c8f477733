-- The calls that a program makes are a mixed list: `early_runs`, whose statement is `EarlyRuns` of specs/Runs.antt.
use mathlib.Core.Path.{◌≡◌, refl, ap, ◌∙◌, subst⁻¹}
use mathlib.Core.List.{List, [], ◌∷◌, map}
use Prim.Native.Nat.{ℕ}
use Rattle.protocol.specs.declared.Receiver.{Receiver}
use Rattle.protocol.specs.Calls.{OpenedReceiver, open_receiver_of, Reported}
use Rattle.protocol.specs.TwoLists.{SendMade}
use Rattle.protocol.specs.Claim.{Faithful}
use Rattle.protocol.specs.Runs.{ReceiverOpened, ReceiverRun}
use Rattle.protocol.proofs.Runs.{send_calls, send_bytes_lem, sent_list, sent_listed, sender_exact, receiver_opens}
use Rattle.early.specs.Mixed.{Call, call_of, CallMade, calls, reports_in}
use Rattle.early.specs.Early.{Early, EarlyKnown}
use Rattle.early.specs.Runs.{CallsRun, EarlyRuns}
use Rattle.early.proofs.Early.{early_known}

-- a run is a list
calls_list : (x : Receiver) (rows : List ℕ) (made : List CallMade) → CallsRun x rows made → made ≡ calls x rows (map (λ m. m.call) made)
unfolding calls
calls_list x rows [] run = refl
calls_list x rows (m ∷ ms) (CallsRun.called same held ensured rest) =
    let after : m.after ≡ call_of x rows m.call = ensured ∙ λ i. call_of (same i) (held i) m.call in
    let others : ms ≡ calls m.after.receiver m.after.rows (map (λ (n : CallMade). n.call) ms)
    = calls_list m.after.receiver m.after.rows ms rest in
    λ i.
    record { before = same i; rows = held i; call = m.call; after = after i }
    ∷ (others ∙ ap (λ (r : Reported). calls r.receiver r.rows (map (λ (n : CallMade). n.call) ms)) after) i

-- and the law of lists holds of it
pub early_runs : EarlyRuns
unfolding EarlyRuns EarlyKnown
early_runs s opening sent made a c bytes =
    let b : ReceiverOpened s opening []
    = record { lent = c.lent; opened = c.opened; ensured = c.ensured; accepted = c.accepted; run = ReceiverRun.ended } in
    let opens = receiver_opens s opening sent [] a b bytes in
    let cs : List Call = map (λ m. m.call) made in
    let list : List CallMade = calls (open_receiver_of s opening c.lent).receiver (open_receiver_of s opening c.lent).rows cs in
    let listed : made ≡ list
    = calls_list c.opened.receiver c.opened.rows made c.run
    ∙ ap (λ (o : OpenedReceiver). calls o.receiver o.rows cs) c.ensured in
    let sends = sent_list s opening sent [] a b bytes in
    subst⁻¹ (λ (l : List SendMade). Faithful l (reports_in made) → Early s opening l made) (sent_listed s opening sent [] a b bytes)
    (subst⁻¹ (λ (l : List CallMade). Faithful sends (reports_in l) → Early s opening sends l) listed
    (early_known s opens.settings opening opens.in_time_lem a.lent c.lent (sender_exact s opening sent [] a b bytes) opens.exact
    (send_calls s opening sent [] a b bytes) (send_bytes_lem s opening sent [] a b bytes) cs))
