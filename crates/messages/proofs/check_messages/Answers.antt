use native.Mathlib.Omega.{arith}
use Rattle.messages.proofs.MessageSteps.{messages, messages-step, message-fits}
use Rattle.messages.proofs.check_messages.Goals as goal

pub returns-then-not-message_right : goal.returns-then-not-message_right
returns-then-not-message_right c = search messages

pub loop-k-preserved : goal.loop-k-preserved
loop-k-preserved c = record {
  within = message-fits _ _ _ _ _ _ c.message_right.ensures c.if-not-message_right.false c.read16-from.ensures.0;
  same = messages-step _ _ _ _ _ _ _ (omega arith) c.message_right.ensures _ _ _ c.if-not-message_right.false c.read16-from.ensures.0 (omega arith) (omega arith) c.loop-k.invariant.same;
}

pub returns-then-from-c : goal.returns-then-from-c
returns-then-from-c c = search messages

pub returns : goal.returns
returns c = search messages
