-- The count as the contents have it, where there are contents.
-- Assumes nothing.
use Rattle.transcribing.proofs.UnfoldSteps.{folded-counts}
use Rattle.transcribing.proofs.unfolds.events_folded.Goals as goal

pub returns-then-extended-lt-EXTENDED_CONTENTS : goal.returns-then-extended-lt-EXTENDED_CONTENTS
returns-then-extended-lt-EXTENDED_CONTENTS c = search folded-counts

pub extent_of-requires : goal.extent_of-requires
extent_of-requires c = search folded-counts

pub returns : goal.returns
returns c = search folded-counts
