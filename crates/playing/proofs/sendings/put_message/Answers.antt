-- The label is the accepted file's own, and the line is laid with it.
-- Assumes nothing.
use Rattle.playing.proofs.SentSteps.{message}
use Rattle.playing.proofs.sendings.put_message.Goals as goal

pub message_line-requires : goal.message_line-requires
message_line-requires c = search message

pub returns : goal.returns
returns c = search message
