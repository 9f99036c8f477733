-- Demand 3, of the calls that a program makes: `runs_are_lists` and `demand3_runs`, whose statements are in specs/Runs.antt.
use Rattle.std.specs.Prelude.{Ok, Err}
use mathlib.Core.Path.{◌≡◌, refl, sym, ap, ◌∙◌, subst, subst⁻¹}
use mathlib.Core.List.Memᴰ
use mathlib.Core.List.{List, [], ◌∷◌, map, Memᴰ}
use Prim.Native.Nat.{ℕ}
use lib.ListN.{length}
use Rattle.galois.specs.Byte.{Bytes}
use Rattle.code.specs.declared.settings.Settings.{Settings}
use Rattle.protocol.specs.declared.Sender.{Sender}
use Rattle.protocol.specs.declared.Receiver.{Receiver}
use Rattle.protocol.specs.Answers.{Answer}
use Rattle.protocol.specs.Lengths.{sender_len}
use Rattle.protocol.specs.Causes.{Row, first_of, open_table, open_receiver_table, open_cause, open_receiver_cause}
use Rattle.protocol.specs.Numbers.{answer_number}
use Rattle.protocol.specs.Calls.{OpenedSender, open_sender_of, Sent, send_of, OpenedReceiver, open_receiver_of, Reported}
use Rattle.protocol.specs.TwoLists.{Send, SendMade, sends, Report, report_of, ReportMade, reports}
use Rattle.protocol.specs.Refusals.{Refuses}
use Rattle.protocol.specs.Claim.{Faithful, Holds, Demand3}
use Rattle.protocol.specs.Runs.{SenderRun, SenderOpened, ReceiverRun, ReceiverOpened, RunsAreLists, Demand3Runs}
use Rattle.protocol.proofs.NumberLaws.{accepted_number}
use Rattle.protocol.proofs.CauseTables.{open_exact, OpensAt, receiver_open}
use Rattle.protocol.proofs.Refusals.{found_first, demand1}
use Rattle.protocol.proofs.Demand.{demand3}

-- ---- a run is a list

sender_list : (x : Sender) (rows : List ℕ) (sent : List SendMade) → SenderRun x rows sent → sent ≡ sends x rows (map (λ m. m.call) sent)
unfolding sends
sender_list x rows [] run = refl
sender_list x rows (m ∷ ms) (SenderRun.called same held ensured rest) =
    let after : m.after ≡ send_of x rows m.call.message m.call.frame
    = ensured ∙ λ i. send_of (same i) (held i) m.call.message m.call.frame in
    let others : ms ≡ sends m.after.sender m.after.rows (map (λ (n : SendMade). n.call) ms)
    = sender_list m.after.sender m.after.rows ms rest in
    λ i.
    record { before = same i; rows = held i; call = m.call; after = after i }
    ∷ (others ∙ ap (λ (r : Sent). sends r.sender r.rows (map (λ (n : SendMade). n.call) ms)) after) i

receiver_list : (x : Receiver) (rows : List ℕ) (told : List ReportMade) → ReceiverRun x rows told
    → told ≡ reports x rows (map (λ m. m.call) told)
unfolding reports
receiver_list x rows [] run = refl
receiver_list x rows (m ∷ ms) (ReceiverRun.called same held ensured rest) =
    let after : m.after ≡ report_of x rows m.call = ensured ∙ λ i. report_of (same i) (held i) m.call in
    let others : ms ≡ reports m.after.receiver m.after.rows (map (λ (n : ReportMade). n.call) ms)
    = receiver_list m.after.receiver m.after.rows ms rest in
    λ i.
    record { before = same i; rows = held i; call = m.call; after = after i }
    ∷ (others ∙ ap (λ (r : Reported). reports r.receiver r.rows (map (λ (n : ReportMade). n.call) ms)) after) i

-- ---- a list is a run

list_sender : (x : Sender) (rows : List ℕ) (calls : List Send) → SenderRun x rows (sends x rows calls)
unfolding sends
list_sender x rows [] = SenderRun.ended
list_sender x rows (c ∷ cs) =
    let r : Sent = send_of x rows c.message c.frame in
    SenderRun.called refl refl refl (list_sender r.sender r.rows cs)

list_receiver : (x : Receiver) (rows : List ℕ) (calls : List Report) → ReceiverRun x rows (reports x rows calls)
unfolding reports
list_receiver x rows [] = ReceiverRun.ended
list_receiver x rows (c ∷ cs) =
    let r : Reported = report_of x rows c in
    ReceiverRun.called refl refl refl (list_receiver r.receiver r.rows cs)

pub runs_are_lists : RunsAreLists
runs_are_lists = record {
  sender_list = sender_list;
  list_sender = list_sender;
  receiver_list = receiver_list;
  list_receiver = list_receiver;
}

-- ---- demand 3

-- the table of a call that is accepted finds no cause
table_clear : (rs : List Row) {number : ℕ} {Stays : Type 0} → Refuses rs number Stays → number ≡ 0 → first_of rs ≡ Ok tt
table_clear rs {number} refuses none = go (first_of rs) refl
  where
    go : (a : Answer) → first_of rs ≡ a → first_of rs ≡ Ok tt
    go (Ok tt) e = e
    go (Err c) e = absurd (accepted_number c (sym none ∙ (refuses.first c).1 (found_first c rs e)))

module _ (s : Settings) (opening : ℕ) (sent : List SendMade) (told : List ReportMade) (a : SenderOpened s sent)
    (b : ReceiverOpened s opening told) (bytes : (m : SendMade) → Memᴰ m sent → Bytes m.call.message) where
  abbrev pub send_calls : List Send
  send_calls = map (λ m. m.call) sent

  abbrev report_calls : List Report
  report_calls = map (λ m. m.call) told

  pub send_bytes_lem : (c : Send) → Memᴰ c send_calls → Bytes c.message
  send_bytes_lem c h =
      let (m, listed, e) = Memᴰ.of_map (λ (m : SendMade). m.call) sent h in
      subst (λ (c : Send). Bytes c.message) e (bytes m listed)

  -- the lists of the definitions
  abbrev pub sent_list : List SendMade
  sent_list = sends (open_sender_of s a.lent).sender (open_sender_of s a.lent).rows send_calls

  abbrev told_list : List ReportMade
  told_list = reports (open_receiver_of s opening b.lent).receiver (open_receiver_of s opening b.lent).rows report_calls

  pub sent_listed : sent ≡ sent_list
  sent_listed =
      sender_list a.opened.sender a.opened.rows sent a.run
      ∙ ap (λ (o : OpenedSender). sends o.sender o.rows send_calls) a.ensured

  told_listed : told ≡ told_list
  told_listed =
      receiver_list b.opened.receiver b.opened.rows told b.run
      ∙ ap (λ (o : OpenedReceiver). reports o.receiver o.rows report_calls) b.ensured

  pub sender_exact : length a.lent ≡ sender_len s
  unfolding open_cause
  sender_exact =
      open_exact s (sender_len s) a.lent
      (table_clear (open_table s (sender_len s) a.lent) (demand1.open_sender s a.lent)
      (ap (λ (o : OpenedSender). answer_number o.answer) (sym a.ensured) ∙ a.accepted))

  pub receiver_opens : OpensAt s opening b.lent
  unfolding open_receiver_cause
  receiver_opens =
      receiver_open s opening b.lent
      (table_clear (open_receiver_table s opening b.lent) (demand1.open_receiver s opening b.lent)
      (ap (λ (o : OpenedReceiver). answer_number o.answer) (sym b.ensured) ∙ b.accepted))

  run_holds : Faithful sent told → Holds s opening sent told
  unfolding Demand3
  run_holds =
      let opens = receiver_opens in
      subst⁻¹ (λ (l : List SendMade). Faithful l told → Holds s opening l told) sent_listed
      (subst⁻¹ (λ (l : List ReportMade). Faithful sent_list l → Holds s opening sent_list l) told_listed
      (demand3 s opens.settings opening opens.in_time_lem a.lent b.lent sender_exact opens.exact send_calls send_bytes_lem report_calls))

pub demand3_runs : Demand3Runs
unfolding Demand3Runs
demand3_runs = run_holds
