-- No row of the table of hints has more bytes than there is room for, and what is laid is the row of the case.
-- Assumes nothing.
use Rattle.std.specs.Prelude.{Option, Some, None}
use mathlib.Core.Path.{◌≡◌}
use mathlib.Core.List.{List}
use Prim.Native.Nat.{ℕ, ◌+◌, ◌≤◌}
use native.Mathlib.Omega.{arith}
use lib.ListN.{length}
use borrow.Author.Rules.{rules}
use Rattle.ascii.specs.Laying.{Laid}
use Rattle.ascii.proofs.LayLaws.{laid-nothing}
use Rattle.hints.specs.declared.Hint.{Hint}
use Rattle.hints.specs.declared.Hint.TheVariants.{ByteOrderMark, Capitals, NoList, WordOrder, InnerPart, InnerEvent, Decimal, Mixed, Uneven, PastList}
use Rattle.hints.specs.Hints.{hint_words, hint_room}

pub hint-most : (h : Option Hint) → length (hint_words h) ≤ hint_room
unfolding hint_words
hint-most None = omega arith
hint-most (Some ByteOrderMark) = omega arith
hint-most (Some Capitals) = omega arith
hint-most (Some NoList) = omega arith
hint-most (Some WordOrder) = omega arith
hint-most (Some InnerPart) = omega arith
hint-most (Some InnerEvent) = omega arith
hint-most (Some Decimal) = omega arith
hint-most (Some Mixed) = omega arith
hint-most (Some Uneven) = omega arith
hint-most (Some PastList) = omega arith

pub hint-case : {o m words : List ℕ} {at r : ℕ} {x y : Hint} → x ≡ y → Laid o at words m r → hint_words (Some y) ≡ words → Laid o at (hint_words (Some x)) m r × (r ≤ at + hint_room)
hint-case {o} {m} {words} {at} {r} {x} {y} e laid p =
    let s : r ≡ at + length words = laid.stop in
    (rw (e, p) laid, omega (arith, rw p at (hint-most (Some y))))

module _ (o m : List ℕ) (at r : ℕ) (h : Option Hint) where
  pub hint-none : h ≡ None → at + hint_room ≤ length o → Laid o at (hint_words h) o at
  unfolding hint_words
  hint-none e p = rw e (laid-nothing o at (omega arith))

  pub hint-row : (x : Hint) → h ≡ Some x → Laid o at (hint_words (Some x)) m r → Laid o at (hint_words h) m r
  hint-row x e laid = rw e laid

pub ruleset rows = (hint-none, hint-row, rules)
