use Rattle.reader.proofs.ListSteps.{headings}
use Rattle.reader.proofs.listing.past_heading.Goals as goal

pub next_line-requires : goal.next_line-requires
next_line-requires c = search headings

pub unwrap-requires : goal.unwrap-requires
unwrap-requires c = search headings

pub returns : goal.returns
returns c = search headings
