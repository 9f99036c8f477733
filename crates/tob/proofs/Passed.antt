-- What a call's test of its state, and of its settings, says.
use Rattle.std.specs.Prelude.{Ok}
use mathlib.Core.Path.{◌≡◌, sym, ap, ◌∙◌}
use mathlib.Core.List.{List}
use Prim.Native.Nat.{ℕ}
use lib.ListN.{length}
use Rattle.code.specs.declared.settings.Settings.{Settings}
use Rattle.protocol.specs.Answers.{Answer}
use Rattle.protocol.specs.Causes.{open_cause}
use Rattle.protocol.proofs.CauseTables.{open_exact}
use Rattle.frames.specs.Fields.{settings_at}
use Rattle.state.specs.State.{state_len, state_cause}
use Rattle.state.proofs.KeptStates.{uncaused_length}

-- a state that gives no cause has its length
pub state_sized : (end : ℕ) (state : List ℕ) (found : Answer) → found ≡ state_cause end state → found ≡ Ok tt
    → length state ≡ state_len
state_sized end state found tested none = uncaused_length end state (sym tested ∙ none)

-- the cause of an opening is that of the settings as they were read
module _ (settings state : List ℕ) (s : Settings) (found : Answer) (read : s ≡ settings_at 0 settings)
    (tested : found ≡ open_cause s state_len state) where
  pub opening_found : (told : Answer) → found ≡ told → open_cause (settings_at 0 settings) state_len state ≡ told
  opening_found told is = sym (tested ∙ ap (λ (x : Settings). open_cause x state_len state) read) ∙ is

  -- and without one the state has its length
  pub opening_sized : found ≡ Ok tt → length state ≡ state_len
  opening_sized none = open_exact (settings_at 0 settings) state_len state (opening_found (Ok tt) none)
