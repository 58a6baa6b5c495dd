-- Nothing for a file that the check refuses, else what the reader of accepted files finds.
-- Assumes nothing.
use Rattle.score.proofs.LookUps.{spans}
use Rattle.score.proofs.look_up.label_span.Goals as goal

pub returns-then-is_err : goal.returns-then-is_err
returns-then-is_err c = search spans

pub accepted_span-requires : goal.accepted_span-requires
accepted_span-requires c = search spans
