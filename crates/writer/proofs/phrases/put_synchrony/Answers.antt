-- Each word is the one that was asked.
-- Assumes nothing.
use Rattle.writer.proofs.PhraseSteps.{words}
use Rattle.writer.proofs.phrases.put_synchrony.Goals as goal

pub put_bytes-requires : goal.put_bytes-requires
put_bytes-requires c = search words

pub put_bytes-requires-in_default : goal.put_bytes-requires-in_default
put_bytes-requires-in_default c = search words

pub shape_of-out-in-0 : goal.shape_of-out-in-0
shape_of-out-in-0 c = search words

pub returns-in-0 : goal.returns-in-0
returns-in-0 c = search words

pub shape_of-out-in_default : goal.shape_of-out-in_default
shape_of-out-in_default c = search words

pub returns-in_default : goal.returns-in_default
returns-in_default c = search words
