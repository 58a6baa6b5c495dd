-- The first quote, and the rest behind it.
-- Assumes nothing.
use Rattle.writer.proofs.QuoteSteps.{quoting}
use Rattle.writer.proofs.quoting.put_quoted.Goals as goal

pub put_byte-next-requires : goal.put_byte-next-requires
put_byte-next-requires c = search quoting

pub put_escaped-requires : goal.put_escaped-requires
put_escaped-requires c = search quoting

pub shape_of-out : goal.shape_of-out
shape_of-out c = search quoting

pub returns : goal.returns
returns c = search quoting
