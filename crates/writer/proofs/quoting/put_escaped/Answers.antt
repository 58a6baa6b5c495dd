use Rattle.writer.proofs.QuoteSteps.{escaping}
use Rattle.writer.proofs.quoting.put_escaped.Goals as goal

pub put_marked-next-requires : goal.put_marked-next-requires
put_marked-next-requires c = search escaping

pub loop-b-preserved : goal.loop-b-preserved
loop-b-preserved c = search escaping

pub put_byte-requires : goal.put_byte-requires
put_byte-requires c = search escaping

pub returns : goal.returns
returns c = search escaping
