-- What one call came to, in the code's own terms: the machine's tests on a signed number's bits decide the cases of the definitions.
-- Assumes nothing.
use mathlib.Core.Path.{◌≡◌, refl, sym, ap, ◌∙◌}
use mathlib.Core.Bool.{Bool, true, false, cond}
use Prim.Native.Nat.{ℕ, zero, suc, ◌≤◌}
use native.Mathlib.Omega.{arith}
use mathlib.Core.List.{List}
use lib.ListN.{length}
use lib.Dec.{eqb}
use lib.IntN.{ℤ, pos, negsuc}
use mir.Syntax.{Width, w32}
use mir.Val.{SFits, of_z, to_z}
use mir.Facts.{to_z-of_z}
use borrow.Author.Tests.{ne_eqb}
use borrow.Author.Rules.{rules}
use Rattle.std.specs.Prelude.{Option, Result, Ok, Err, IfOk}
use Rattle.std.specs.Io.{ReadsAtMost}
use Rattle.std.specs.declared.io.Error.{Error}
use Rattle.streams.specs.declared.calls.Outcome.{Outcome}
use Rattle.streams.specs.declared.calls.Outcome.TheVariants as outcome
use Rattle.streams.specs.Outcomes.{number_of, failure_of, moved_of, outcome_of, got_of, took_of, Within, Gives, Takes}

-- A signed number is what its bits say.
pub bits-say : (w : Width) (z : ℤ) (n : ℕ) → SFits w z → of_z w z ≡ n → to_z w n ≡ z
bits-say w z n f p = sym (ap (to_z w) p) ∙ to_z-of_z f

-- ---- a call that failed

pub failed-again : (e : ℤ) → SFits w32 e → of_z w32 e ≡ 4 → outcome.Again ≡ failure_of e
unfolding failure_of
failed-again e f p = ap failure_of (bits-say w32 e 4 f p)

pub failed-wait : (e : ℤ) → SFits w32 e → of_z w32 e ≡ 11 → outcome.Wait ≡ failure_of e
unfolding failure_of
failed-wait e f p = ap failure_of (bits-say w32 e 11 f p)

failed-other : (e : ℤ) → (of_z w32 e ≡ 4 → ⊥) → (of_z w32 e ≡ 11 → ⊥) → outcome.Failed e ≡ failure_of e
unfolding failure_of
failed-other (pos n) p q = rw (ne_eqb n 4 p, ne_eqb n 11 q)
failed-other (negsuc n) p q = refl

pub failed-known : (e : ℤ) → SFits w32 e → (of_z w32 e ≡ 4 → ⊥) → (of_z w32 e ≡ 11 → ⊥) → outcome.Failed (to_z w32 (of_z w32 e)) ≡ failure_of e
failed-known e f p q = rw (to_z-of_z f) (failed-other e p q)

pub ruleset failing = (failed-again, failed-wait, failed-known, rules)

-- ---- a call's answer

pub moved-none : (n : ℕ) → n ≡ 0 → outcome.Nothing ≡ moved_of n
unfolding moved_of
moved-none zero p = refl
moved-none (suc n) p = absurd (omega arith)

pub moved-some : (n : ℕ) → (n ≡ 0 → ⊥) → outcome.Took n ≡ moved_of n
unfolding moved_of
moved-some zero p = absurd (p refl)
moved-some (suc n) p = refl

pub failed-by : (r : Result ℕ Error) (e : Error) (n : ℤ) (o : Outcome) → SFits w32 n → r ≡ Err e → n ≡ number_of e → o ≡ failure_of (to_z w32 (of_z w32 n)) → o ≡ outcome_of r
unfolding outcome_of
failed-by r e n o f p q d = rw p (d ∙ ap failure_of (to_z-of_z f ∙ q))

pub ruleset answering = (moved-none, moved-some, rules)

-- ---- the bytes that are moved are among those handed in

moved-within : (most n : ℕ) → n ≤ most → Within most (moved_of n)
unfolding Within moved_of
moved-within most zero m = tt
moved-within most (suc n) m = (omega arith, m)

failed-within : (most : ℕ) (e : ℤ) (a b : Bool) → Within most (cond a outcome.Again (cond b outcome.Wait (outcome.Failed e)))
unfolding Within
failed-within most e true b = tt
failed-within most e false true = tt
failed-within most e false false = tt

failure-within : (most : ℕ) (e : ℤ) → Within most (failure_of e)
unfolding failure_of Within
failure-within most (pos n) = failed-within most (pos n) (eqb n 4) (eqb n 11)
failure-within most (negsuc n) = tt

answer-within : (most : ℕ) (r : Result ℕ Error) → IfOk r (λ n. n ≤ most) → Within most (outcome_of r)
unfolding outcome_of
answer-within most (Ok n) m = moved-within most n m
answer-within most (Err e) m = failure-within most (number_of e)

pub within-moved : (most : ℕ) (r : Result ℕ Error) (o : Outcome) → IfOk r (λ n. n ≤ most) → o ≡ outcome_of r → Within most o
within-moved most r o m d = rw d (answer-within most r m)

read-at-most : (xs : List ℕ) (r : Result ℕ Error) → ReadsAtMost r xs → IfOk r (λ n. n ≤ length xs)
read-at-most xs (Ok n) h = h.0
read-at-most xs (Err e) h = tt

pub read-moved : (old new : List ℕ) (r : Result ℕ Error) (o : Outcome) → length new ≡ length old → ReadsAtMost r new → o ≡ outcome_of r → Within (length old) o
read-moved old new r o e h d = rw (← e) (within-moved (length new) r o (read-at-most new r h) d)

-- ---- how much a call gave

gives : (most : ℕ) (o : Outcome) → Within most o → Gives most (got_of o)
unfolding Within
gives most (outcome.Took n) w = w
gives most outcome.Nothing w = tt
gives most outcome.Again w = tt
gives most outcome.Wait w = tt
gives most (outcome.Failed e) w = tt

takes : (most : ℕ) (o : Outcome) → Within most o → Takes most (took_of o)
unfolding Within
takes most (outcome.Took n) w = w
takes most outcome.Nothing w = tt
takes most outcome.Again w = tt
takes most outcome.Wait w = tt
takes most (outcome.Failed e) w = tt

pub gives-by : (size most : ℕ) (o : Outcome) (g : Result (Option ℕ) ℤ) → size ≡ most → Within size o → g ≡ got_of o → Gives most g
gives-by size most o g e w d = rw (d, ← e) (gives size o w)

pub gives-failed : (most : ℕ) (e : ℤ) → Gives most (Err e)
gives-failed most e = tt

pub takes-by : (most : ℕ) (o : Outcome) (r : Result ℕ ℤ) → Within most o → r ≡ took_of o → Takes most r
takes-by most o r w d = rw d (takes most o w)

pub takes-failed : (most : ℕ) (e : ℤ) → Takes most (Err e)
takes-failed most e = tt

pub ruleset giving = (gives-by, gives-failed, takes-by, takes-failed, rules)
