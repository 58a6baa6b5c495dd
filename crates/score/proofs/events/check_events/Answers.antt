use native.Mathlib.Omega.{arith}
use Rattle.score.proofs.EventSteps.{events, events-out, events-step}
use Rattle.score.proofs.events.check_events.Goals as goal

pub loop-k-preserved : goal.loop-k-preserved
loop-k-preserved c = events-step _ _ _ _ _ (omega arith) c.read32-d.ensures.0 _ _ c.if-d-lt1.false c.if-d-gt-LONGEST.false (omega arith) (omega arith) c.loop-k.invariant

pub returns : goal.returns
returns c = search events

pub returns-then-d-lt1 : goal.returns-then-d-lt1
returns-then-d-lt1 c = events-out _ _ _ _ _ (omega arith) c.read32-d.ensures.0 c.then-d-lt1.either c.loop-k.invariant
