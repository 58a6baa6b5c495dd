use native.Mathlib.Omega.{arith}
use Rattle.tables.proofs.CurveCounts.{counting-step, counting-end, counting-most, counting}
use Rattle.tables.proofs.counting.count_curve.Goals as goal

pub loop-init : goal.loop-init
loop-init c = search counting

pub count_span-n-requires : goal.count_span-n-requires
count_span-n-requires c = search counting

pub overflow_add-n : goal.overflow_add-n
overflow_add-n c = search counting

pub overflow_add-at : goal.overflow_add-at
overflow_add-at c = search counting

pub loop-preserved : goal.loop-preserved
loop-preserved c =
    counting-step _ _ _ _ c.requires _ _ _ c.loop.invariant _ _ (omega arith) (omega arith) c.count_span-n.ensures.0 c.count_span-n.ensures.1

pub returns : goal.returns
returns c =
    let end = counting-end _ _ _ _ c.requires _ _ _ c.loop.invariant in
    let most = counting-most _ _ _ _ c.requires _ _ _ c.loop.invariant in
    (end (omega arith), most (omega arith))
