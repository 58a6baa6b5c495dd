-- `item_in` reads the fields one by one.
-- Assumes nothing.
use mathlib.Core.Path.{refl}
use borrow.Author.Rules.{rules}
use Rattle.fates.specs.Fields.{item_in}
use Rattle.fates.proofs.FieldLaws.{item-fits-word}
use Rattle.fates.proofs.words.item_in.Goals as goal

pub delay_in-requires : goal.delay_in-requires
delay_in-requires c = search rules

pub returns : goal.returns
unfolding item_in
returns c = rw c.delay_in.ensures.0 (refl, item-fits-word c.args.w)
