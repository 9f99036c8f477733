-- Document 02 §5: settings work as those with the smaller of T and W - 1 set as T, at both ends.
use Rattle.std.specs.Prelude.{◌≡◌, List, ℕ}
use Rattle.code.specs.declared.settings.Settings.{Settings}
use Rattle.protocol.specs.Answers.{Reply}
use Rattle.protocol.specs.Frame.{body_of}
use Rattle.protocol.specs.Verdict.{verdict, buffer_of}
use Rattle.protocol.specs.Delay.{at_delay}

pub record Alike : Type 0 where
  -- a frame has the same body, whatever the rows hold
  pub same_body : (s : Settings) (rows message : List ℕ) (t : ℕ) → body_of s rows message t ≡ body_of (at_delay s) rows message t
  -- the same rows tell the same of a message, and the message buffer is the same
  pub same_verdict : (s : Settings) (rows : List ℕ) (due t : ℕ) → verdict s rows due t ≡ verdict (at_delay s) rows due t
  pub same_buffer : (s : Settings) (rows : List ℕ) (due t : ℕ) (r : Reply)
      → buffer_of s rows due t r ≡ buffer_of (at_delay s) rows due t r
