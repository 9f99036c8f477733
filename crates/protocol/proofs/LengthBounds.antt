-- The lengths fit a machine word, whatever the settings.
use Prim.Native.Nat.{◌-◌, ◌*◌, ◌≤◌, ◌<◌}
use native.Mathlib.Nat.{mul-le-mul}
use native.Mathlib.Omega.{arith}
use Rattle.code.specs.declared.settings.Settings.{Settings}
use Rattle.code.specs.Settings.{delay_of, k_of, n_of}
use Rattle.protocol.specs.Lengths.{message_len, body_len, row_count, row_len}

module _ (s : Settings) (delay : s.delay < 256) (burst : s.burst < 256) (lanes : s.lanes < 256) where
  pub message_small : message_len s ≤ 65280
  unfolding message_len k_of delay_of
  message_small = mul-le-mul {n₂ = 256} {m₂ = 255} (omega arith) (omega arith)

  pub body_small : body_len s ≤ 130305
  unfolding body_len n_of k_of delay_of
  body_small = mul-le-mul {n₂ = 511} {m₂ = 255} (omega arith) (omega arith)

  pub sender_small : (n_of s - 1) * message_len s ≤ 33358080
  unfolding n_of k_of delay_of
  sender_small = mul-le-mul {n₂ = 511} {m₂ = 65280} (omega arith) message_small

  pub receiver_small : row_count s * row_len s ≤ 66586366
  unfolding row_count row_len k_of delay_of
  receiver_small = mul-le-mul {n₂ = 511} {m₂ = 130306} (omega arith) (omega (arith, body_small))
