-- The label's own bytes stand behind the line.
-- Assumes nothing.
use Rattle.writer.proofs.NestSteps.{labelled}
use Rattle.writer.proofs.nesting.put_action.Goals as goal

pub accepted_label-label-requires : goal.accepted_label-label-requires
accepted_label-label-requires c = search labelled

pub put_send-requires : goal.put_send-requires
put_send-requires c = search labelled

pub shape_of-out : goal.shape_of-out
shape_of-out c = search labelled

pub returns : goal.returns
returns c = search labelled
