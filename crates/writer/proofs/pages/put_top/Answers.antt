-- The part, where it changes, and the item with those within it.
-- Assumes nothing.
use borrow.Author.Rules.{rules}
use Rattle.writer.proofs.PageSteps.{inner-fits, topping}
use Rattle.writer.proofs.pages.put_top.Goals as goal

pub put_change-parted-requires : goal.put_change-parted-requires
put_change-parted-requires c = search topping

pub overflow_add-inner : goal.overflow_add-inner
overflow_add-inner c =
    let fits = inner-fits _ _ _ _ _ _ _ c.requires in search rules

pub put_items-requires : goal.put_items-requires
put_items-requires c = search topping

pub shape_of-out : goal.shape_of-out
shape_of-out c = search topping

pub returns : goal.returns
returns c = search topping
