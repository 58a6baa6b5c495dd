use Rattle.writer.proofs.PageSteps.{listing}
use Rattle.writer.proofs.pages.put_messages.Goals as goal

pub put_entry-next-requires : goal.put_entry-next-requires
put_entry-next-requires c = search listing

pub loop-k-preserved : goal.loop-k-preserved
loop-k-preserved c = search listing

pub returns : goal.returns
returns c = search listing
