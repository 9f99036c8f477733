-- Tests over all numbers below a bound.
use Rattle.std.specs.Prelude.{Bool, true, false, cond, ◌&&◌, ◌||◌, ℕ, zero, suc, ◌+◌}

-- the test passes at each number below m
unfoldable pub every : ℕ → (ℕ → Bool) → Bool
every zero f = true
every (suc m) f = every m f && f m

-- the test passes at some number below m
unfoldable pub any : ℕ → (ℕ → Bool) → Bool
any zero f = false
any (suc m) f = any m f || f m

-- how many numbers below m pass the test
unfoldable pub count : ℕ → (ℕ → Bool) → ℕ
count zero f = 0
count (suc m) f = count m f + cond (f m) 1 0
