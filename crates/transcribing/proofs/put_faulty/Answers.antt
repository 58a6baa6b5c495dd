-- By the hint of the text's own fault.
-- Assumes nothing.
use Rattle.transcribing.proofs.ToldSteps.{reading}
use Rattle.transcribing.proofs.put_faulty.Goals as goal

pub tally_text-t-requires : goal.tally_text-t-requires
tally_text-t-requires c = search reading

pub hint_told-h-requires : goal.hint_told-h-requires
hint_told-h-requires c = search reading

pub misread_line-requires : goal.misread_line-requires
misread_line-requires c = search reading

pub shape_of-out : goal.shape_of-out
shape_of-out c = search reading

pub returns : goal.returns
returns c = search reading
