-- Each kind gives what the definition picks for it.
-- Assumes nothing.
use borrow.Author.Rules.{rules}
use Rattle.shapes.proofs.SizeSteps.{owning}
use Rattle.shapes.proofs.own_of.Goals as goal

pub within_of-within-requires : goal.within_of-within-requires
within_of-within-requires c = search rules

pub returns-then-i-eq0 : goal.returns-then-i-eq0
returns-then-i-eq0 c = search owning

pub returns-then-i-eq1 : goal.returns-then-i-eq1
returns-then-i-eq1 c = search owning

pub returns-then-i-eq0-2 : goal.returns-then-i-eq0-2
returns-then-i-eq0-2 c = search owning

pub overflow_add-result : goal.overflow_add-result
overflow_add-result c = search rules

pub returns-then-i-eq2 : goal.returns-then-i-eq2
returns-then-i-eq2 c = search owning

pub overflow_add-result-2 : goal.overflow_add-result-2
overflow_add-result-2 c = search rules

pub returns : goal.returns
returns c = search owning
