-- Which arguments are names.
use Rattle.std.specs.Prelude.{ℕ, suc, Bool, true, List, [], ◌∷◌}
use Rattle.base.specs.Tests.{pick}
use Rattle.orders.specs.declared.Argument.{Argument}
use Rattle.orders.specs.declared.Argument.TheVariants.{Name, Plain, Wish, Dashed}
use Rattle.orders.specs.Usage.{argument_of, is_name}

-- Behind `--` all are.
unfoldable pub plain_after : Argument → Bool → Bool
plain_after Name plain = plain
plain_after Plain plain = true
plain_after Wish plain = plain
plain_after Dashed plain = plain

unfoldable pub with_name : Argument → (i : ℕ) → List ℕ → List ℕ
with_name a i l = pick (is_name a) (i ∷ l) l

-- Those of these that are names, where the first of them is argument i.
unfoldable pub names_at : (plain : Bool) → (i : ℕ) → List (List ℕ) → List ℕ
names_at plain i [] = []
names_at plain i (arg ∷ args) = with_name (argument_of plain arg) i (names_at (plain_after (argument_of plain arg) plain) (suc i) args)
