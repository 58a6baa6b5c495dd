-- Two bytes are laid one behind the other.
-- Assumes nothing.
use Rattle.writer.proofs.QuoteSteps.{pairs}
use Rattle.writer.proofs.quoting.put_behind_backslash.Goals as goal

pub put_byte-next-requires : goal.put_byte-next-requires
put_byte-next-requires c = search pairs

pub put_byte-requires : goal.put_byte-requires
put_byte-requires c = search pairs

pub shape_of-out : goal.shape_of-out
shape_of-out c = search pairs

pub returns : goal.returns
returns c = search pairs
