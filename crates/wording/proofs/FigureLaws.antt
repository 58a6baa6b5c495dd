-- A word and a number laid one behind the other.
-- Assumes nothing.
use mathlib.Core.List.{List, ◌++◌}
use Prim.Native.Nat.{ℕ}
use borrow.Author.Rules.{rules}
use Rattle.ascii.specs.Decimals.{decimal}
use Rattle.ascii.specs.Laying.{Laid}
use Rattle.ascii.proofs.LayLaws.{laid-join}

pub lay-counted : (o m n word : List ℕ) (at a r k : ℕ) → Laid o at word m a → Laid m a (decimal k) n r → Laid o at (word ++ decimal k) n r
lay-counted o m n word at a r k p q = laid-join o m n _ _ at a r p q

pub ruleset figures = (lay-counted, rules)
