-- An accepted file has the item within it, and its fields in their ranges.
-- Assumes nothing.
use borrow.Author.Rules.{rules}
use Rattle.score.proofs.Readers.{items, item-within}
use Rattle.score.proofs.read_item.Goals as goal

pub read_counts-c-requires : goal.read_counts-c-requires
read_counts-c-requires c = search items

pub items_at-requires : goal.items_at-requires
items_at-requires c = search items

pub overflow_mul-p : goal.overflow_mul-p
overflow_mul-p c = let w = item-within _ _ c.requires _ _ c.read_counts-c.ensures c.items_at.ensures in search rules

pub overflow_add-items_at : goal.overflow_add-items_at
overflow_add-items_at c = let w = item-within _ _ c.requires _ _ c.read_counts-c.ensures c.items_at.ensures in search rules

pub item_at-requires : goal.item_at-requires
item_at-requires c = search items

pub returns : goal.returns
returns c = search items
