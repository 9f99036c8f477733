-- Document 01, "Figures on the card": a row for each, with what the definitions give beside what the card says.
use Rattle.std.specs.Prelude.{List, [], ◌∷◌, map, ◌++◌, ℕ, zero, suc, ◌+◌, get_or, length, take, drop, replicate, Ok}
use Rattle.galois.specs.Reciprocal.{numbered}
use Rattle.galois.specs.Narrow.{◌⊠◌}
use Rattle.galois.specs.Byte.{◌⊗◌, reciprocal}
use Rattle.code.specs.declared.settings.Settings.{Settings}
use Rattle.code.specs.Matrix.{entry}
use Rattle.code.specs.Settings.{delay_of, k_of}
use Rattle.galois.specs.Table.{table}
use Rattle.code.specs.Word.{symbol}
use Rattle.protocol.specs.Answers.{Reply}
use Rattle.protocol.specs.declared.Told.TheVariants.{Whole, Lost, Clash}
use Rattle.protocol.specs.Lengths.{message_len, frame_len, sender_len, receiver_len}
use Rattle.protocol.specs.Calls.{OpenedSender, OpenedReceiver, open_sender_of, open_receiver_of, message_due}
use Rattle.protocol.specs.TwoLists.{Send, SendMade, sends, Report, heard, missed, ReportMade, reports}

-- what a report tells: of which message, at which slot, its reply, and its message buffer
pub record Told : Type 0 where
  pub about : ℕ
  pub slot : ℕ
  pub reply : Reply
  pub message : List ℕ

-- what a figure speaks of: numbers, the bodies of frames, or what reports tell
pub data Value : Type 0 where
  numbers : List ℕ → Value
  bodies : List (List ℕ) → Value
  told : List Told → Value

-- a row of the table
pub record Figure : Type 0 where
  -- the figure's number on the card
  pub number : ℕ
  -- what the definitions give
  pub given : Value
  -- what the card says
  pub card : Value

-- ---- the code

-- settings with T, B and N, the shortest window for which T is the delay, and one lane
abbrev pub set_to : ℕ → ℕ → ℕ → Settings
set_to T B N = record { window = T + 1; delay = T; burst = B; scattered = N; lanes = 1 }

-- the first m positions of row i of G
unfoldable pub row_of : Settings → ℕ → ℕ → List ℕ
row_of s m i = table m (λ j. entry s i j)

-- the parity of the word with these first symbols: the B symbols after the first k
unfoldable pub parity : Settings → List ℕ → List ℕ
parity s x = table s.burst (λ e. symbol s (λ i. get_or x i 0) (k_of s + e))

-- the parity of the two units, for k = 2
unfoldable pub unit_parities : Settings → List ℕ
unit_parities s = parity s (1 ∷ 0 ∷ []) ++ parity s (0 ∷ 1 ∷ [])

-- ---- the sender

-- message 0 is 01 00, message 1 is 00 01, the rest are zeros
abbrev pub message_at : ℕ → List ℕ
message_at zero = 0x01 ∷ 0x00 ∷ []
message_at (suc zero) = 0x00 ∷ 0x01 ∷ []
message_at (suc (suc t)) = 0x00 ∷ 0x00 ∷ []

-- the calls of the sender for slots 0 to m - 1; each lent byte is 7
unfoldable pub send_calls : Settings → ℕ → List Send
send_calls s m = table m (λ t. record { message = message_at t; frame = replicate (frame_len s) 7 })

-- the sends of slots 0 to m - 1 after an opening
unfoldable pub sent : Settings → ℕ → List SendMade
sent s m =
    let opened : OpenedSender = open_sender_of s (replicate (sender_len s) 7) in
    sends opened.sender opened.rows (send_calls s m)

-- the frames that they hand out
unfoldable pub frames_of : List SendMade → List (List ℕ)
frames_of = map (λ c. c.after.frame)

-- and the bodies of these
unfoldable pub bodies_of : List SendMade → List (List ℕ)
bodies_of = map (λ c. drop 14 c.after.frame)

-- ---- the receiver

-- what becomes of a frame: it is lost, it arrives as sent, or it arrives with another body
pub data Fate : Type 0 where
  lost : Fate
  own : Fate
  altered : List ℕ → Fate

-- the reports of the frames of slots 0 on, by what becomes of each; the message buffer is lent
unfoldable pub reports_of : List ℕ → List Fate → List (List ℕ) → List Report
reports_of buffer [] frames = []
reports_of buffer (x ∷ xs) [] = []
reports_of buffer (lost ∷ xs) (frame ∷ frames) = missed buffer ∷ reports_of buffer xs frames
reports_of buffer (own ∷ xs) (frame ∷ frames) = heard frame buffer ∷ reports_of buffer xs frames
reports_of buffer (altered body ∷ xs) (frame ∷ frames) = heard (take 14 frame ++ body) buffer ∷ reports_of buffer xs frames

-- the calls of the receiver, for what becomes of the first frames of the sender above; each lent byte is 7
unfoldable pub calls : Settings → List Fate → List Report
calls s fates = reports_of (replicate (message_len s) 7) fates (frames_of (sent s (length fates)))

-- what these reports come to after an opening at this slot
unfoldable pub reported : Settings → ℕ → List Report → List ReportMade
reported s slot cs =
    let opened : OpenedReceiver = open_receiver_of s slot (replicate (receiver_len s) 7) in
    reports opened.receiver opened.rows cs

-- what reports tell
unfoldable pub told_by : Settings → List ReportMade → List Told
told_by s = map (λ r. record {
  about = message_due s r.before.due;
  slot = r.before.due;
  reply = r.after.reply;
  message = r.after.message;
})

-- what they tell from slot T on, where message 0 is due
unfoldable pub told_of : Settings → List Fate → List Told
told_of s fates = drop (delay_of s) (told_by s (reported s 0 (calls s fates)))

-- ---- the card

-- its twelve figures
unfoldable pub figures : List Figure
figures =
    record { number = 1; given = numbers (2 ⊠ 9 ∷ []); card = numbers (1 ∷ []) }
    ∷ record { number = 2; given = numbers (16 ⊗ 16 ∷ []); card = numbers (24 ∷ []) }
    ∷ record { number = 3; given = numbers (16 ⊗ 24 ∷ []); card = numbers (152 ∷ []) }
    ∷ record { number = 4; given = numbers (numbered (reciprocal 16)).1; card = numbers (255 ∷ []) }
    ∷ record {
      number = 5;
      given = numbers (row_of (set_to 3 2 2) 4 0 ++ row_of (set_to 3 2 2) 4 1);
      card = numbers (1 ∷ 8 ∷ 0 ∷ 16 ∷ 0 ∷ 1 ∷ 2 ∷ 3 ∷ []);
    }
    ∷ record { number = 6; given = numbers (unit_parities (set_to 3 2 2)); card = numbers (3 ∷ 27 ∷ 2 ∷ 3 ∷ []) }
    ∷ record { number = 7; given = numbers (unit_parities (set_to 3 3 2)); card = numbers (3 ∷ 16 ∷ 128 ∷ 2 ∷ 0 ∷ 16 ∷ []) }
    ∷ record { number = 8; given = numbers (unit_parities (set_to 2 2 1)); card = numbers (16 ∷ 0 ∷ 0 ∷ 16 ∷ []) }
    ∷ record {
      number = 9;
      given = bodies (bodies_of (sent (set_to 3 2 2) 5));
      card = bodies
          ((0x01 ∷ 0x00 ∷ 0x00 ∷ 0x00 ∷ []) ∷ (0x00 ∷ 0x01 ∷ 0x00 ∷ 0x00 ∷ []) ∷ (0x00 ∷ 0x00 ∷ 0x01 ∷ 0x00 ∷ [])
          ∷ (0x00 ∷ 0x00 ∷ 0x00 ∷ 0x18 ∷ []) ∷ (0x00 ∷ 0x00 ∷ 0x00 ∷ 0x00 ∷ []) ∷ []);
    }
    ∷ record {
      number = 10;
      given = told (told_of (set_to 3 2 2) (lost ∷ lost ∷ own ∷ own ∷ []));
      card = told (record { about = 0; slot = 3; reply = Ok Whole; message = 0x01 ∷ 0x00 ∷ [] } ∷ []);
    }
    ∷ record {
      number = 11;
      given = told (told_of (set_to 3 2 2) (lost ∷ lost ∷ lost ∷ own ∷ own ∷ own ∷ []));
      card = told
          (record { about = 0; slot = 3; reply = Ok Lost; message = 0x00 ∷ 0x00 ∷ [] }
          ∷ record { about = 1; slot = 4; reply = Ok Lost; message = 0x00 ∷ 0x00 ∷ [] }
          ∷ record { about = 2; slot = 5; reply = Ok Whole; message = 0x00 ∷ 0x00 ∷ [] } ∷ []);
    }
    ∷ record {
      number = 12;
      given = told (told_of (set_to 3 2 2) (own ∷ own ∷ altered (0x00 ∷ 0x00 ∷ 0x02 ∷ 0x00 ∷ []) ∷ own ∷ own ∷ own ∷ []));
      card = told
          (record { about = 0; slot = 3; reply = Ok Clash; message = 0x00 ∷ 0x00 ∷ [] }
          ∷ record { about = 1; slot = 4; reply = Ok Clash; message = 0x00 ∷ 0x00 ∷ [] }
          ∷ record { about = 2; slot = 5; reply = Ok Whole; message = 0x00 ∷ 0x00 ∷ [] } ∷ []);
    }
    ∷ []
