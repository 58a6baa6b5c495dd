-- A call moved no bytes, or some.
-- Assumes nothing.
use Rattle.streams.proofs.CallSteps.{answering}
use Rattle.streams.proofs.calls.moved.Goals as goal

pub returns-then-n-eq0 : goal.returns-then-n-eq0
returns-then-n-eq0 c = search answering

pub returns : goal.returns
returns c = search answering
