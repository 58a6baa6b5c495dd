-- The items of an extended score: "the 12 of document 01, then `each` (u32) and `times` (u16), then two bytes of 0".
use Rattle.std.specs.Prelude.{ℕ, zero, suc, ◌+◌, Bool, List, [], ◌∷◌, eqb}
use Rattle.base.specs.Tests.{pick}
use Rattle.contents.specs.Bytes.{u16_at, u32_at}
use Rattle.items.specs.Items.{item_at}
use Rattle.extended.specs.declared.Folded.{Folded}
use Rattle.extended.specs.Layout.{folded_size}

unfoldable pub folded_at : List ℕ → ℕ → Folded
folded_at f at = record { item = item_at f at; each = u32_at f (at + 12); times = u16_at f (at + 16); pad = u16_at f (at + 18) }

-- The count items from the byte at on.
unfoldable pub folded_from : List ℕ → ℕ → ℕ → List Folded
folded_from f at zero = []
folded_from f at (suc count) = folded_at f at ∷ folded_from f (at + folded_size) count

-- "Kind 2 is a loop, 3 a curve": 0 is an action and 1 a group.
abbrev pub is_group : Folded → Bool
is_group i = eqb i.item.kind 1

abbrev pub is_loop : Folded → Bool
is_loop i = eqb i.item.kind 2

abbrev pub is_curve : Folded → Bool
is_curve i = eqb i.item.kind 3

-- "`last` the items within it, as for a group"; an action and a curve have none.
unfoldable pub held_by : Folded → ℕ
held_by i = pick (is_group i) i.item.last (pick (is_loop i) i.item.last 0)
