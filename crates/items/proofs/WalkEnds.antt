-- How the walk of the whole table ended, from where the table was computed to start, in the code's own terms.
-- Assumes nothing.
use mathlib.Core.Path.{◌≡◌}
use mathlib.Core.List.{List}
use Prim.Native.Nat.{ℕ}
use borrow.Author.Rules.{rules}
use Rattle.std.specs.Prelude.{Result, Ok, Err}
use Rattle.contents.specs.declared.Fault.{Fault}
use Rattle.contents.specs.declared.Counts.{Counts}
use Rattle.contents.specs.Replies.{verdict_of}
use Rattle.contents.specs.Contents.{items_at}
use Rattle.items.specs.Items.{items_from, walked, outset, walk_fault, items_right}

module _ (f : List ℕ) (c : Counts) (w : Result ℕ Fault) (at : ℕ) (here : at ≡ items_at c) (walk : w ≡ walked c at (items_from f at c.items) outset 0) where
  found : walk_fault w ≡ items_right c (items_from f (items_at c) c.items)
  unfolding items_right
  found = rw (← here, walk)

  pub items-fine : (n : ℕ) → w ≡ Ok n → Ok tt ≡ verdict_of (items_right c (items_from f (items_at c) c.items))
  unfolding verdict_of walk_fault
  items-fine n e = rw (← found, e)

  pub items-fault : (x : Fault) → w ≡ Err x → Err x ≡ verdict_of (items_right c (items_from f (items_at c) c.items))
  unfolding verdict_of walk_fault
  items-fault x e = rw (← found, e)

pub ruleset ends = (items-fine, items-fault, rules)
