-- Each is laid behind the one before, within its room.
-- Assumes nothing.
use Rattle.refusals.proofs.TextLaws.{telling}
use Rattle.refusals.proofs.texts.unmade_line.Goals as goal

pub put_bytes-at-requires : goal.put_bytes-at-requires
put_bytes-at-requires c = search telling

pub put_refused_file-requires : goal.put_refused_file-requires
put_refused_file-requires c = search telling

pub shape_of-out : goal.shape_of-out
shape_of-out c = search telling

pub returns : goal.returns
returns c = search telling
