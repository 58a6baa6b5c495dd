-- Nothing for a message that the file has not, else what its entry says.
-- Assumes nothing.
use Rattle.score.proofs.LookUps.{spans}
use Rattle.score.proofs.look_up.accepted_span.Goals as goal

pub read_counts-c-requires : goal.read_counts-c-requires
read_counts-c-requires c = search spans

pub returns-then-c-n : goal.returns-then-c-n
returns-then-c-n c = search spans

pub read_span-requires : goal.read_span-requires
read_span-requires c = search spans
