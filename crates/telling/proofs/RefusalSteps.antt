-- Whether an opening has been refused, after each line that printed.
-- Assumes nothing.
use mathlib.Core.Path.{◌≡◌}
use mathlib.Core.Bool.{Bool, true, false, not}
use mathlib.Core.List.{List}
use Prim.Native.Nat.{ℕ}
use lib.Seq.{length-take-le}
use borrow.Author.Rules.{rules}
use Rattle.base.specs.Tests.{pick}
use Rattle.base.proofs.TestLaws.{told-true, told-false}
use Rattle.ascii.specs.Text.{bytes_of}
use Rattle.ascii.specs.Words.{begins, same}
use Rattle.lines.specs.Words.{open_word}
use Rattle.telling.specs.Openings.{granted_word, tells_refusal, tells_grace, tells_unopened}

-- ---- what was printed

module _ (bs : List ℕ) (t : Bool) (e : t ≡ begins granted_word bs) where
  pub tells-granted : t ≡ true → false ≡ tells_refusal bs
  unfolding tells_refusal pick
  tells-granted p = rw (← e, p)

  pub tells-other : (u : Bool) → t ≡ false → u ≡ begins open_word bs → u ≡ tells_refusal bs
  unfolding tells_refusal pick
  tells-other u p q = rw (← e, p) q

pub tells-grace : (bs : List ℕ) (t : Bool) → t ≡ begins (bytes_of "open 19 ") bs → t ≡ tells_grace bs
unfolding tells_grace
tells-grace bs t e = e

pub tells-unopened : (bs : List ℕ) (t : Bool) → t ≡ same (bytes_of "bad 1\n") bs → t ≡ tells_unopened bs
unfolding tells_unopened
tells-unopened bs t e = e

pub ruleset printing = (tells-granted, tells-other, tells-grace, tells-unopened, rules)

-- ---- after a line

module _ (t b refused : Bool) (e : t ≡ b) where
  pub after-other : not t ≡ true → refused ≡ pick b true refused
  unfolding pick
  after-other p = rw (told-false t b e p)

  pub after-refusal : not t ≡ false → true ≡ pick b true refused
  unfolding pick
  after-refusal p = rw (told-true t b e p)

pub ruleset after = (after-other, after-refusal, rules)
