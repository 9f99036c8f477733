-- The buffers are long enough for any settings that are accepted, and a player begins with these.
use Rattle.std.proofs.Common.{◌≡◌, ℕ, List, length, take, refl, sym, ap, subst, arith}
use Prim.Native.Nat.{zero-le}
use lib.Dec.{T}
use lib.ListN.{length-take}
use Rattle.code.specs.declared.settings.Settings.{Settings}
use Rattle.code.specs.Settings.{accepted}
use Rattle.protocol.specs.Lengths.{receiver_len}
use Rattle.protocol.proofs.ReportChain.{opened_receiver_lem}
use Rattle.progress.specs.declared.Player.{Player}
use Rattle.steps.specs.Steps.{Begun, begin_of}
use Rattle.player.proofs.LoopLaws.{rows_few, message_few}
use Rattle.play.proofs.play_parts.Goals as goal

begun : (s : Settings) (rows message : List ℕ) → T (accepted s) → length rows ≡ receiver_len s
    → (p : Player) → p ≡ (begin_of s rows message).player → p.receiver.settings ≡ s
unfolding begin_of
begun s rows message ok exact p is =
    let opened = opened_receiver_lem s 0 rows record { settings = ok; exact = exact; in_time_lem = zero-le } in
    rw (is, opened) refl

pub slice_bounds-rows-end : goal.slice_bounds-rows-end
slice_bounds-rows-end g c = omega (arith, rows_few c.args.s c.requires.0, c.receiver_len.ensures)

pub slice_bounds-rows-end-2 : goal.slice_bounds-rows-end-2
slice_bounds-rows-end-2 g c =
    omega (arith, rows_few c.args.s c.requires.0, c.receiver_len.ensures, length-take c.receiver_len.result c.args.rows.now)

pub slice_bounds-message-end : goal.slice_bounds-message-end
slice_bounds-message-end g c = omega (arith, message_few c.args.s c.requires.0, c.message_len.ensures)

pub slice_bounds-message-end-2 : goal.slice_bounds-message-end-2
slice_bounds-message-end-2 g c =
    omega (arith, message_few c.args.s c.requires.0, c.message_len.ensures, length-take c.message_len.result c.args.message.now)

pub loop-p-init : goal.loop-p-init
loop-p-init g c =
    let rows : List ℕ = take c.receiver_len.result c.args.rows.now in
    let message : List ℕ = take c.message_len.result c.args.message.now in
    let exact : length rows ≡ receiver_len c.args.s =
    omega (arith, rows_few c.args.s c.requires.0, c.receiver_len.ensures, length-take c.receiver_len.result c.args.rows.now) in
    let kept = begun c.args.s rows message c.requires.0 exact c.begin-p.result (ap (λ (b : Begun). b.player) c.begin-p.ensures) in
    let fits : length message ≡ c.message_len.result =
    omega (arith, message_few c.args.s c.requires.0, c.message_len.ensures, length-take c.message_len.result c.args.message.now) in (
      subst (λ (s : Settings). g.R.Recorded.accepts c.args.recorded.now s) (sym kept) c.requires.1,
      omega (arith, fits, message_few c.args.s c.requires.0, c.message_len.ensures, c.begin-p.auto.message, c.requires.4),
      refl,
      refl,
      refl,
    )
