use borrow.Author.Rules.{rules}
use Rattle.performance.proofs.ChunkSteps.{taking_step, chunks}
use Rattle.performance.proofs.reading.take_chunk.Goals as goal

pub loop-at-preserved : goal.loop-at-preserved
loop-at-preserved c =
    let h = c.in-Ok.ensures.went in
    (taking_step c.loop-at.invariant.0 h c.loop-at-test.true (search rules), search rules, search rules, search rules, search rules)

pub returns-clause-read : goal.returns-clause-read
returns-clause-read c = search chunks

pub returns-in-Err-clause-came : goal.returns-in-Err-clause-came
returns-in-Err-clause-came c =
    let t = taking_step c.loop-at.invariant.0 c.in-Err.ensures.went c.loop-at-test.true (search rules) in
    search (chunks, t)
