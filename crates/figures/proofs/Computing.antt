-- What a figure is computed by: an `unfolding` line that names `computing` opens all of these.
use Rattle.galois.specs.Bounded.{count}
use Rattle.galois.specs.Table.{table}
use Rattle.galois.proofs.Arithmetic.{arithmetic}
use Rattle.code.specs.Settings.{delay_of, k_of, n_of, d_of, all, accepted}
use Rattle.code.specs.Matrix.{point, factor, product, spread, alpha_entry, entry}
use Rattle.code.specs.Word.{word_at, multipliers, symbol, unit, systematic_of}
use Rattle.repair.specs.Fair.{losses, first_loss, last_loss, distance, fair_stretch, fair_slots}
use Rattle.elimination.specs.Elimination.{cell, free, pivot_from, scaled_at, cleared, pivoted, column_step, first_roles, columns}
use Rattle.elimination.specs.Elimination.{eliminated}
use Rattle.elimination.specs.Elimination.{combined, clashes, differs, symbol_of}
use Rattle.protocol.specs.Lengths.{last_slot, message_len, body_len, frame_len, sender_len, row_len, row_count, receiver_len}
use Rattle.protocol.specs.Rows.{put_row, joined}
use Rattle.protocol.specs.Frame.{mark, five, slot_bytes, header, remembered, sent_symbol, body_of, frame_of}
use Rattle.protocol.specs.Causes.{agree, open_cause, open_receiver_cause, send_cause, loss_cause, frame_cause_of}
use Rattle.protocol.specs.Verdict.{row_at, reported_at, arrived, some_codeword}
use Rattle.protocol.specs.Calls.{open_sender_of, send_of, received_zeros, row_before, last_in, opened_rows, open_receiver_of, message_due}
use Rattle.protocol.specs.TwoLists.{sends}
use Rattle.protocol.specs.Histories.{lost_at, lost_since}
use Rattle.protocol.proofs.QuickVerdict.{quick_symbol, quick_reply, quick_moved, quick_report, quick_reports, small, small_frames}

unfoldable pub computing : Unit {0}
unfolding count table arithmetic delay_of k_of n_of d_of all accepted
    point factor product spread alpha_entry entry word_at multipliers symbol unit systematic_of
    losses first_loss last_loss distance fair_stretch fair_slots
    cell free pivot_from scaled_at cleared pivoted column_step first_roles columns eliminated combined clashes differs symbol_of
    last_slot message_len body_len frame_len sender_len row_len row_count receiver_len put_row joined
    mark five slot_bytes header remembered sent_symbol body_of frame_of agree open_cause open_receiver_cause send_cause loss_cause
    frame_cause_of
    row_at reported_at arrived some_codeword open_sender_of send_of received_zeros row_before last_in opened_rows open_receiver_of
    message_due
    sends lost_at lost_since
    quick_symbol quick_reply quick_moved quick_report quick_reports small small_frames
computing = tt
