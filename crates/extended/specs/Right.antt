-- When an extended score can be unfolded: 17, and its place.
use Rattle.std.specs.Prelude.{ℕ, zero, suc, ◌+◌, ◌*◌, Bool, true, List, [], ◌∷◌, leb, ltb, eqb, length, take}
use Rattle.base.specs.Tests.{pick, every, between}
use Rattle.base.specs.Checks.{Check, need, first_fault}
use Rattle.contents.specs.Limits.{longest}
use Rattle.values.specs.Curves.{Point}
use Rattle.extended.specs.declared.Folded.{Folded}
use Rattle.extended.specs.Layout.{folded_size, extent_of, items_start, points_start, contents_right}
use Rattle.extended.specs.Folds.{folded_at, is_loop, is_curve, held_by}
use Rattle.extended.specs.Points.{points_from, spans_right, points_after}

-- "`each` is its period, 0 to 5,040,000, `times` its passes, 1 to 256"
abbrev pub most_passes : ℕ
most_passes = 256

unfoldable pub loop_right : Folded → Bool
loop_right i = every (leb i.each longest ∷ between 1 most_passes i.times ∷ [])

-- "`each` is its step, 1 to 5,040,000, `times` how many points it has, at least 1, `last` 0"; so many are left.
unfoldable pub curve_right : Folded → List Point → Bool
curve_right i ps =
    every (between 1 longest i.each ∷ between 1 (length ps) i.times ∷ eqb i.item.last 0 ∷ spans_right i.each (take i.times ps) ∷ [])

-- "kind above 3"; "an action or group whose `each` or `times` isn't 0"
unfoldable pub plain_right : Folded → Bool
plain_right i = every (leb i.item.kind 1 ∷ eqb i.each 0 ∷ eqb i.times 0 ∷ [])

-- What an item says by itself. "a pad that isn't 0"
unfoldable pub own_right : Folded → List Point → Bool
own_right i ps = every (eqb i.pad 0 ∷ pick (is_loop i) (loop_right i) (pick (is_curve i) (curve_right i ps) (plain_right i)) ∷ [])

-- ---- nesting, of the items of a file by their number k

unfoldable pub item_of : List ℕ → ℕ → Folded
item_of f k = folded_at f (items_start (extent_of f) + folded_size * k)

-- The number after an item and all within it.
unfoldable pub end_of : List ℕ → ℕ → ℕ
end_of f k = k + (1 + held_by (item_of f k))

-- "a group or loop that ends past what holds it": item k ends within the table, and within those of the first m items that hold it.
unfoldable pub ends_within : List ℕ → (k m : ℕ) → Bool
ends_within f k zero = leb (end_of f k) (extent_of f).items
ends_within f k (suc m) = every (pick (ltb k (end_of f m)) (leb (end_of f k) (end_of f m)) true ∷ ends_within f k m ∷ [])

-- ---- the whole

-- "17 at an item's first byte, for the first one from front to back that can't be unfolded"; at 0, "last of all, points left over". From item k on so many are
-- left, and these points.
unfoldable pub folds_right : List ℕ → (k : ℕ) → List Point → (count : ℕ) → Check ℕ
folds_right f k ps zero = need (eqb (length ps) 0) 0
folds_right f k ps (suc count) =
    first_fault (
    need (every (own_right (item_of f k) ps ∷ ends_within f k k ∷ [])) (items_start (extent_of f) + folded_size * k)
    ∷ folds_right f (k + 1) (points_after (item_of f k) ps) count
    ∷ []
    )

-- "17 at 0: under 40 bytes; an offset or the length that isn't as above". The fault is its place.
unfoldable pub extended_right : List ℕ → Check ℕ
extended_right f =
    let c = extent_of f in
    first_fault (need (contents_right f) 0 ∷ folds_right f 0 (points_from f (points_start c) c.points) c.items ∷ [])
