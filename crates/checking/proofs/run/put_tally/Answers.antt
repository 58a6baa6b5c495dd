-- The four counts are laid one behind the other.
-- Assumes nothing.
use borrow.Author.Rules.{rules}
use Rattle.checking.proofs.RunLaws.{lay-tally}
use Rattle.checking.proofs.run.put_tally.Goals as goal

pub returns : goal.returns
returns c = (
  lay-tally c.args.t
      c.files.ensures
      c.from.ensures
      c.from-2.ensures
      c.from-3.ensures
      c.put_count-at.ensures.0
      c.put_count-at-2.ensures.0
      c.put_count-at-3.ensures.0
      c.put_count.ensures.0,
  search rules,
)
