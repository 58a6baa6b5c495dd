-- The line, by the counts that were found.
-- Assumes nothing.
use Rattle.transcribing.proofs.UnfoldSteps.{unfolds}
use Rattle.transcribing.proofs.unfolds.put_unfolded.Goals as goal

pub counts_folded-c-requires : goal.counts_folded-c-requires
counts_folded-c-requires c = search unfolds

pub unmade_line-requires : goal.unmade_line-requires
unmade_line-requires c = search unfolds

pub shape_of-out : goal.shape_of-out
shape_of-out c = search unfolds

pub returns : goal.returns
returns c = search unfolds
