-- A quote and a backslash have a backslash before them.
-- Assumes nothing.
use Rattle.writer.proofs.QuoteSteps.{marks}
use Rattle.writer.proofs.quoting.put_marked.Goals as goal

pub is_escaped-requires : goal.is_escaped-requires
is_escaped-requires c = search marks

pub put_behind_backslash-requires : goal.put_behind_backslash-requires
put_behind_backslash-requires c = search marks

pub shape_of-out-then-is_escaped : goal.shape_of-out-then-is_escaped
shape_of-out-then-is_escaped c = search marks

pub returns-then-is_escaped : goal.returns-then-is_escaped
returns-then-is_escaped c = search marks

pub put_byte-requires : goal.put_byte-requires
put_byte-requires c = search marks

pub shape_of-out : goal.shape_of-out
shape_of-out c = search marks

pub returns : goal.returns
returns c = search marks
