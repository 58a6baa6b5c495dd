-- The count of the contents, which an accepted file has within its limits.
-- Assumes nothing.
use Rattle.score.proofs.Accepted.{file-long}
use Rattle.score.proofs.Readers.{messages-read}
use Rattle.score.proofs.message_count.Goals as goal

pub read_counts-c-requires : goal.read_counts-c-requires
read_counts-c-requires c = search file-long

pub returns : goal.returns
returns c = messages-read _ _ c.requires c.read_counts-c.ensures
