-- Which of the numbers that protocol's specs/Numbers.antt gives are of a call that was accepted.
use Rattle.std.specs.Prelude.{Bool, not, ◌&&◌, ℕ, leb}

-- the numbers of a refusal: the causes' of all documents, 1 to 15, whichever of them a version has; other replies are 0, or 16 and above
abbrev pub refusal : ℕ → Bool
refusal n = leb 1 n && leb n 15

-- and all others are of a call that was accepted
abbrev pub acceptance : ℕ → Bool
acceptance n = not (refusal n)
