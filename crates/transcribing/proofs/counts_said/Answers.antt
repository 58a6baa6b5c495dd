-- What was tallied is what the text says.
-- Assumes nothing.
use Rattle.transcribing.proofs.ToldSteps.{counting}
use Rattle.transcribing.proofs.counts_said.Goals as goal

pub tally_text-requires : goal.tally_text-requires
tally_text-requires c = search counting

pub counts_told-requires : goal.counts_told-requires
counts_told-requires c = search counting

pub returns : goal.returns
returns c = search counting
