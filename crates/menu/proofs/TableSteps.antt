-- A row laid in lent bytes, its texts as they are read there, and looking a command up, in the code's own terms.
-- Assumes nothing.
use mathlib.Core.Path.{◌≡◌, refl}
use mathlib.Core.Bool.{Bool, true, false}
use mathlib.Core.List.{List, ◌∷◌}
use Prim.Native.Nat.{ℕ, ◌+◌, ◌<◌, ◌≤◌}
use lib.ListN.{drop, drop_of_length-le}
use borrow.Author.Rules.{rules}
use Rattle.std.specs.Prelude.{Option, Some, None}
use Rattle.std.proofs.Common.{add-one, drop-cons, slice_index_or}
use Rattle.base.specs.Tests.{pick}
use Rattle.ascii.specs.Words.{same}
use Rattle.menu.specs.declared.Command.{Command}
use Rattle.menu.specs.declared.Command.TheVariants.{Check}
use Rattle.menu.specs.declared.table.Entry.{Entry}
use Rattle.menu.specs.Table.{row_of, commands, count, named_in, command_named}
use Rattle.menu.specs.Rows.{Holds}

-- ---- a row

-- the row of a case is the row of what is this case
pub row-case : {x y : Command} {e : Entry} → x ≡ y → Holds (row_of y) e → Holds (row_of x) e
row-case p h = rw p h

-- ---- a command of the list

pub listed-at : (i : ℕ) → i < count → drop i commands ≡ slice_index_or commands i Check ∷ drop (i + 1) commands
unfolding commands
listed-at i p = rw (add-one, drop-cons commands i Check)

-- ---- looked up

pub look-start : (bytes : List ℕ) → named_in (drop 0 commands) bytes ≡ command_named bytes
unfolding command_named
look-start bytes = refl

module _ (bytes : List ℕ) (i : ℕ) (W : Option Command) (inv : named_in (drop i commands) bytes ≡ W) where
  pub look-end : count ≤ i → None ≡ W
  unfolding named_in commands
  look-end p = rw (drop_of_length-le commands p) at inv

  module _ (c : Command) (at : drop i commands ≡ c ∷ drop (i + 1) commands) (t : Bool) (e : t ≡ same (row_of c).name bytes) where
    pub look-found : t ≡ true → Some c ≡ W
    unfolding named_in pick
    look-found p = rw (at, ← e, p) at inv

    pub look-on : t ≡ false → named_in (drop (i + 1) commands) bytes ≡ W
    unfolding named_in pick
    look-on p = rw (at, ← e, p) at inv

pub ruleset looking = (look-start, look-end, look-found, look-on, rules)
