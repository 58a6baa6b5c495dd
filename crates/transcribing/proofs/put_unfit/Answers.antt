-- By the counts of what the text says, and what made the byte.
-- Assumes nothing.
use Rattle.transcribing.proofs.ToldSteps.{reading}
use Rattle.transcribing.proofs.put_unfit.Goals as goal

pub counts_said-c-requires : goal.counts_said-c-requires
counts_said-c-requires c = search reading

pub refusal_row-requires : goal.refusal_row-requires
refusal_row-requires c = search reading

pub place_in_text-p-requires : goal.place_in_text-p-requires
place_in_text-p-requires c = search reading

pub fault_hint-h-requires : goal.fault_hint-h-requires
fault_hint-h-requires c = search reading

pub misfit_line-requires : goal.misfit_line-requires
misfit_line-requires c = search reading

pub shape_of-out : goal.shape_of-out
shape_of-out c = search reading

pub returns : goal.returns
returns c = search reading
