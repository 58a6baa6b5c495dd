-- Name, number, place, entry and words are laid one behind the other, each within its room.
-- Assumes nothing.
use native.Mathlib.Omega.{arith}
use borrow.Author.Rules.{rules}
use Rattle.refusals.proofs.LineLaws.{lay-refusal}
use Rattle.refusals.proofs.line.refusal_line.Goals as goal

pub refusal_row-row-requires : goal.refusal_row-row-requires
refusal_row-row-requires c = search rules

pub put_bytes-named-requires : goal.put_bytes-named-requires
put_bytes-named-requires c = search rules

pub put_bytes-at-requires : goal.put_bytes-at-requires
put_bytes-at-requires c = search rules

pub put_figure-at-requires : goal.put_figure-at-requires
put_figure-at-requires c = search rules

pub put_where-at-requires : goal.put_where-at-requires
put_where-at-requires c = search rules

pub put_bytes-at-requires-2 : goal.put_bytes-at-requires-2
put_bytes-at-requires-2 c = search rules

pub put_words-at-requires : goal.put_words-at-requires
put_words-at-requires c = search rules

pub put_byte-requires : goal.put_byte-requires
put_byte-requires c = search rules

pub shape_of-out : goal.shape_of-out
shape_of-out c = search rules

pub returns : goal.returns
returns c = (
  lay-refusal c.args.file.now c.args.x
      c.refusal_row-row.ensures
      c.put_bytes-named.ensures
      c.put_bytes-at.ensures
      c.put_figure-at.ensures.0
      c.put_where-at.ensures.0
      c.put_bytes-at-2.ensures
      c.put_words-at.ensures.0
      c.put_byte.ensures,
  omega arith,
)
