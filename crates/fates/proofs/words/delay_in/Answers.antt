-- `delay_in` reads one field.
-- Assumes nothing.
use borrow.Author.Rules.{rules}
use Rattle.fates.specs.Fields.{item_in}
use Rattle.fates.proofs.words.delay_in.Goals as goal

pub returns : goal.returns
unfolding item_in
returns c = search rules
