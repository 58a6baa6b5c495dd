-- The six stores are the two runs of words, by definition.
-- Assumes nothing.
use mathlib.Core.Path.{refl}
use native.Mathlib.Omega.{arith}
use lib.ListN.{length-set}
use Rattle.opening.specs.Opening.{with_words}
use borrow.Author.Rules.{rules}
use Rattle.opening.proofs.put_header.Goals as goal

pub returns : goal.returns
unfolding with_words
returns c = refl
