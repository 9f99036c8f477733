-- A number tells its case: `numbers_tell`, whose statement is `NumbersTell` of specs/Numbers.antt.
use Rattle.std.specs.Prelude.{Ok, Err}
use mathlib.Core.Path.{◌≡◌, refl, sym, ap, ◌∙◌}
use mathlib.Core.Bool.{cond}
use mathlib.Core.Logic.{◌≢◌}
use native.Mathlib.Omega.{arith}
use Prim.Native.Nat.{ℕ}
use lib.Dec.{eqb}
use Rattle.protocol.specs.declared.Cause.{Cause}
use Rattle.protocol.specs.declared.Cause.TheVariants.{BadSettings, BadLength, PastLastSlot, OtherMark, OtherSettings, OtherSlot}
use Rattle.protocol.specs.declared.Cause.TheVariants.{LateOpening, OutOfReach}
use Rattle.protocol.specs.Answers.{Answer, Reply}
use Rattle.protocol.specs.declared.Told.TheVariants.{NoneYet, Whole, Lost, Clash}
use Rattle.protocol.specs.Causes.{number_of}
use Rattle.protocol.specs.Numbers.{answer_number, reply_number, NumbersTell}

-- ---- the case that a number stands for

unfoldable cause_of : ℕ → Cause
cause_of n =
    cond (eqb n 1) BadSettings
    (cond (eqb n 2) BadLength
    (cond (eqb n 3) PastLastSlot
    (cond (eqb n 4) OtherMark
    (cond (eqb n 5) OtherSettings (cond (eqb n 6) OtherSlot (cond (eqb n 7) LateOpening OutOfReach))))))

unfoldable answer_of : ℕ → Answer
answer_of n = cond (eqb n 0) (Ok tt) (Err (cause_of n))

unfoldable reply_of : ℕ → Reply
reply_of n =
    cond (eqb n 16) (Ok NoneYet)
    (cond (eqb n 17) (Ok Whole) (cond (eqb n 18) (Ok Lost) (cond (eqb n 19) (Ok Clash) (Err (cause_of n)))))

-- ---- and back

-- what holds at each of the causes holds at all
each : (P : Cause → Type 0) → P BadSettings → P BadLength → P PastLastSlot → P OtherMark → P OtherSettings → P OtherSlot
    → P LateOpening → P OutOfReach → (c : Cause) → P c
each P p₁ p₂ p₃ p₄ p₅ p₆ p₇ p₈ BadSettings = p₁
each P p₁ p₂ p₃ p₄ p₅ p₆ p₇ p₈ BadLength = p₂
each P p₁ p₂ p₃ p₄ p₅ p₆ p₇ p₈ PastLastSlot = p₃
each P p₁ p₂ p₃ p₄ p₅ p₆ p₇ p₈ OtherMark = p₄
each P p₁ p₂ p₃ p₄ p₅ p₆ p₇ p₈ OtherSettings = p₅
each P p₁ p₂ p₃ p₄ p₅ p₆ p₇ p₈ OtherSlot = p₆
each P p₁ p₂ p₃ p₄ p₅ p₆ p₇ p₈ LateOpening = p₇
each P p₁ p₂ p₃ p₄ p₅ p₆ p₇ p₈ OutOfReach = p₈

cause_back : (c : Cause) → cause_of (number_of c) ≡ c
unfolding cause_of
cause_back = each (λ c. cause_of (number_of c) ≡ c) refl refl refl refl refl refl refl refl

answer_back : (a : Answer) → answer_of (answer_number a) ≡ a
unfolding answer_of cause_of
answer_back (Ok tt) = refl
answer_back (Err c) = each (λ c. answer_of (number_of c) ≡ Err c) refl refl refl refl refl refl refl refl c

reply_back : (r : Reply) → reply_of (reply_number r) ≡ r
unfolding reply_of cause_of
reply_back (Err c) = each (λ c. reply_of (number_of c) ≡ Err c) refl refl refl refl refl refl refl refl c
reply_back (Ok NoneYet) = refl
reply_back (Ok Whole) = refl
reply_back (Ok Lost) = refl
reply_back (Ok Clash) = refl

-- ---- so a number tells its case

pub number_tells : (a b : Cause) → number_of a ≡ number_of b → a ≡ b
number_tells a b e = sym (cause_back a) ∙ ap cause_of e ∙ cause_back b

pub answer_tells : (a b : Answer) → answer_number a ≡ answer_number b → a ≡ b
answer_tells a b e = sym (answer_back a) ∙ ap answer_of e ∙ answer_back b

pub reply_tells : (a b : Reply) → reply_number a ≡ reply_number b → a ≡ b
reply_tells a b e = sym (reply_back a) ∙ ap reply_of e ∙ reply_back b

pub numbers_tell : NumbersTell
numbers_tell = record { causes = number_tells; answers = answer_tells; replies = reply_tells }

-- and an accepted call's is no cause's
pub accepted_number : (c : Cause) → answer_number (Ok tt) ≢ number_of c
accepted_number c e =
    let same : (Ok tt) ≡ Err c = answer_tells (Ok tt) (Err c) e in
    let z : ◌≡◌ {A = ℕ} 0 1 = cc in omega arith
