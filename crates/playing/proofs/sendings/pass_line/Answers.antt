-- The call is made, and what it answered is printed.
-- Assumes nothing.
use Rattle.playing.proofs.CallSteps.{calls}
use Rattle.playing.proofs.sendings.pass_line.Goals as goal

pub put_sent-count-requires : goal.put_sent-count-requires
put_sent-count-requires c = search calls

pub returns : goal.returns
returns c = search calls
