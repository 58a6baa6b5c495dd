-- The label's own bytes, in quotes.
-- Assumes nothing.
use Rattle.writer.proofs.NestSteps.{labelled}
use Rattle.writer.proofs.pages.put_entry.Goals as goal

pub accepted_label-label-requires : goal.accepted_label-label-requires
accepted_label-label-requires c = search labelled

pub put_message-requires : goal.put_message-requires
put_message-requires c = search labelled

pub shape_of-out : goal.shape_of-out
shape_of-out c = search labelled

pub returns : goal.returns
returns c = search labelled
