use Rattle.reader.proofs.ListSteps.{listings}
use Rattle.reader.proofs.listing.fill_list.Goals as goal

pub returns-in_default-found : goal.returns-in_default-found
returns-in_default-found c = search listings

pub put_entry-requires : goal.put_entry-requires
put_entry-requires c = search listings

pub put_label-from-requires : goal.put_label-from-requires
put_label-from-requires c = search listings

pub loop-s-smaller : goal.loop-s-smaller
loop-s-smaller c = search listings

pub loop-s-preserved : goal.loop-s-preserved
loop-s-preserved c = search listings

pub returns : goal.returns
returns c = search listings
