-- The words that it is, by definition.
-- Assumes nothing.
use borrow.Author.Rules.{rules}
use Rattle.menu.specs.Help.{help_end}
use Rattle.menu.proofs.listing.put_end.Goals as goal

pub returns : goal.returns
unfolding help_end
returns c = search rules
