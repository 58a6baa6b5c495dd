-- Each number has one row of the table, and no two rows have the same words but those of no permission: looked up among the words of all rows, a row's own are found first at it.
-- Assumes nothing.
use mathlib.Core.Path.{◌≡◌, refl}
use mathlib.Core.Bool.{Bool, true}
use mathlib.Core.List.{List, [], ◌∷◌, map}
use Prim.Native.Nat.{ℕ, suc}
use lib.Dec.{ltb}
use Rattle.base.specs.Tests.{pick, every}
use Rattle.ascii.specs.Words.{begins}
use Rattle.reasons.specs.Reasons.{Reason, reason_table}

-- each of the rows' numbers is above the one before
unfoldable pub rising : (before : ℕ) → List Reason → List Bool
rising n [] = []
rising n (r ∷ rs) = ltb n r.number ∷ rising r.number rs

pub numbers-rise : every (rising 0 reason_table) ≡ true
unfolding rising every reason_table
numbers-rise = refl

-- how many rows stand before the first whose words the bytes begin with
unfoldable pub found_at : List Reason → List ℕ → ℕ
found_at [] bytes = 0
found_at (r ∷ rs) bytes = pick (begins r.words bytes) 0 (suc (found_at rs bytes))

pub reasons-apart : map (λ (r : Reason). found_at reason_table r.words) reason_table ≡ (0 ∷ 1 ∷ 2 ∷ 3 ∷ 0 ∷ 5 ∷ 6 ∷ 7 ∷ 8 ∷ 9 ∷ 10 ∷ 11 ∷ 12 ∷ [])
unfolding found_at begins pick reason_table
reasons-apart = refl
