-- A state has 20 bytes.
use mathlib.Core.Path.{◌≡◌, refl}
use Prim.Native.Nat.{ℕ}
use lib.ListN.{length}
use Rattle.code.specs.declared.settings.Settings.{Settings}
use Rattle.protocol.specs.Frame.{five, slot_bytes}
use Rattle.state.specs.State.{state_bytes, state_len}

pub length-state : (end : ℕ) (s : Settings) (due opening : ℕ) → length (state_bytes end s due opening) ≡ state_len
unfolding five slot_bytes state_bytes
length-state end s due opening = refl
