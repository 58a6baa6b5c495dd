-- Each word is the one that was asked.
-- Assumes nothing.
use Rattle.writer.proofs.PhraseSteps.{words}
use Rattle.writer.proofs.phrases.put_error.Goals as goal

pub put_bytes-requires : goal.put_bytes-requires
put_bytes-requires c = search words

pub put_bytes-requires-in-1 : goal.put_bytes-requires-in-1
put_bytes-requires-in-1 c = search words

pub put_bytes-requires-in-2 : goal.put_bytes-requires-in-2
put_bytes-requires-in-2 c = search words

pub put_bytes-requires-in_default : goal.put_bytes-requires-in_default
put_bytes-requires-in_default c = search words

pub returns-in-0 : goal.returns-in-0
returns-in-0 c = search words

pub returns-in-1 : goal.returns-in-1
returns-in-1 c = search words

pub returns-in-2 : goal.returns-in-2
returns-in-2 c = search words

pub returns-in_default : goal.returns-in_default
returns-in_default c = search words
