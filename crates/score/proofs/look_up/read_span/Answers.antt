-- The entry of a granted message says where its label lies, and it lies within the text.
-- Assumes nothing.
use Rattle.score.proofs.LookUps.{spans}
use Rattle.score.proofs.look_up.read_span.Goals as goal

pub returns : goal.returns
returns c = search spans
