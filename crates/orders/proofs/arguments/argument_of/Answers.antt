-- Each test decides one case.
-- Assumes nothing.
use Rattle.orders.proofs.UsageSteps.{is-short-wish, is-long-wish, reading}
use Rattle.orders.proofs.arguments.argument_of.Goals.{then-same-2-via-then-same-2, then-same-2-via-else-same-2+then-same-3}
use Rattle.orders.proofs.arguments.argument_of.Goals as goal

pub returns-then-plain : goal.returns-then-plain
returns-then-plain c = search reading

pub returns-then-same : goal.returns-then-same
returns-then-same c = search reading

pub returns-then-same-2 : goal.returns-then-same-2
returns-then-same-2 c =
    elim c.then-same-2.branch [
      | then-same-2-via-then-same-2 w ↦ is-short-wish _ _ c.if-plain.false _ c.same.ensures c.if-same.false _ c.same-2.ensures w.if-same-2.true
      | then-same-2-via-else-same-2+then-same-3 w ↦ is-long-wish _ _ c.if-plain.false _ c.same.ensures c.if-same.false _ c.same-2.ensures w.if-same-2.false _ w.same-else-same-2.ensures w.if-same-3.true
    ]

pub returns-then-same-4 : goal.returns-then-same-4
returns-then-same-4 c = search reading

pub returns-then-begins : goal.returns-then-begins
returns-then-begins c = search reading

pub returns : goal.returns
returns c = search reading
