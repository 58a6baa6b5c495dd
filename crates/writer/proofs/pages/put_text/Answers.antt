-- The heading, the message list and the page are laid one behind the other.
-- Assumes nothing.
use Rattle.writer.proofs.TextSteps.{texts}
use Rattle.writer.proofs.pages.put_text.Goals as goal

pub put_bytes-headed-requires : goal.put_bytes-headed-requires
put_bytes-headed-requires c = search texts

pub put_messages-listed-requires : goal.put_messages-listed-requires
put_messages-listed-requires c = search texts

pub put_page-requires : goal.put_page-requires
put_page-requires c = search texts

pub shape_of-out : goal.shape_of-out
shape_of-out c = search texts

pub returns : goal.returns
returns c = search texts
