use Rattle.opening.proofs.ListLaws.{kept-length}
use Rattle.opening.proofs.WriteSteps.{starts-end, starts-next}
use borrow.Author.Rules.{rules}
use Rattle.opening.proofs.put_starts.Goals as goal

ruleset steps = (starts-end, starts-next, kept-length, rules)

pub loop-k-preserved : goal.loop-k-preserved
loop-k-preserved c =
    (search steps, search steps, starts-next _ _ _ 17 _ _ _ c.requires.1 c.loop-k.invariant.2 _ c.loop-k-test.true c.duration-d.ensures)

pub returns : goal.returns
returns c = search steps
