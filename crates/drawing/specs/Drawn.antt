-- The numbers that are drawn from a state, one after another.
use Rattle.std.specs.Prelude.{ℕ, zero, suc, ◌+◌, ◌*◌, ◌/◌, ◌%◌}

-- the state after the next number
abbrev pub after : ℕ → ℕ
after x = (x % 2147483648 * 1103515245 + 12345) % 2147483648

-- the number that leaves this state, 0 to 32767
abbrev pub number_of : ℕ → ℕ
number_of x = x / 65536

-- the next number
abbrev pub next_of : ℕ → ℕ
next_of x = number_of (after x)

-- the state after so many numbers
abbrev pub after_all : ℕ → ℕ → ℕ
after_all x zero = x
after_all x (suc n) = after (after_all x n)
