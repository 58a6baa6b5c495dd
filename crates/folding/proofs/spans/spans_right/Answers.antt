-- Each span by the law of the point that it is read at.
-- Assumes nothing.
use native.Mathlib.Omega.{arith}
use Rattle.folding.proofs.SpanSteps.{spans-short, spans-part, spans-more, spans}
use Rattle.folding.proofs.spans.spans_right.Goals as goal

pub loop-k-init : goal.loop-k-init
loop-k-init c = search spans

pub returns-then-span-step : goal.returns-then-span-step
returns-then-span-step c = spans-short _ _ _ _ _ _ _ c.loop-k.invariant (omega arith) c.read32-span.ensures.0 c.if-span-step.true

pub returns-then-span-step-ne0 : goal.returns-then-span-step-ne0
returns-then-span-step-ne0 c = spans-part _ _ _ _ _ _ _ c.loop-k.invariant (omega arith) c.read32-span.ensures.0 c.if-span-step.false c.if-span-step-ne0.true

pub loop-k-preserved : goal.loop-k-preserved
loop-k-preserved c =
    spans-more _ _ _ _ _ _ _ c.loop-k.invariant _ _ (omega arith) (omega arith) (omega arith) c.read32-span.ensures.0 c.if-span-step.false c.if-span-step-ne0.false

pub returns : goal.returns
returns c = search spans
