use Rattle.playing.proofs.SentSteps.{messages}
use Rattle.playing.proofs.sendings.put_messages.Goals as goal

pub loop-i-init : goal.loop-i-init
loop-i-init c = search messages

pub loop-i-preserved : goal.loop-i-preserved
loop-i-preserved c = search messages
