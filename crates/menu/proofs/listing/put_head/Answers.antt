-- The words that it is, by definition.
-- Assumes nothing.
use borrow.Author.Rules.{rules}
use Rattle.menu.specs.Help.{help_head}
use Rattle.menu.proofs.listing.put_head.Goals as goal

pub returns : goal.returns
unfolding help_head
returns c = search rules
