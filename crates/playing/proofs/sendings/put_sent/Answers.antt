-- A granted call prints the messages that stand in the send room, a refused one its number.
-- Assumes nothing.
use Rattle.playing.proofs.CallSteps.{answers}
use Rattle.playing.proofs.sendings.put_sent.Goals as goal

pub returns-in-Ok : goal.returns-in-Ok
returns-in-Ok c = search answers

pub returns-in-Err : goal.returns-in-Err
returns-in-Err c = search answers
