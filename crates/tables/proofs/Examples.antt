-- A small table and its values, worked out by the definitions.
-- Assumes nothing.
use mathlib.Core.Path.{◌≡◌, refl}
use mathlib.Core.List.{List, [], ◌∷◌}
use Prim.Native.Nat.{ℕ}
use lib.IntN.{ℤ, pos, negsuc}
use Rattle.base.specs.Tests.{pick}
use Rattle.values.specs.Integers.{floor_div}
use Rattle.values.specs.Curves.{Point, curve_value, values_from, span_values, values_on, curve_values}
use Rattle.extended.specs.declared.Folded.{Folded}
use Rattle.extended.specs.Points.{points_after, values_of, all_values}
use Rattle.tables.specs.Tables.{times_of, row_of, table_of}

abbrev folded : (kind last each times : ℕ) → Folded
folded k l e t =
    record {
      item = record { kind = k; synchrony = 0; error = 0; part = 0; delay = record { 0 = 0 }; event = 1; last = l };
      each = e;
      times = t;
      pad = 0;
    }

abbrev point : ℤ → ℕ → Point
point v d = record { value = v; span = d }

-- a curve from 0 to 3 and down to -2, then a loop of 5 passes over a curve of one point
abbrev pub items : List Folded
items = folded 3 0 2 3 ∷ folded 2 1 630 5 ∷ folded 3 0 7 1 ∷ []

abbrev pub points : List Point
points = point (pos 0) 4 ∷ point (pos 3) 4 ∷ point (negsuc 1) 0 ∷ point (pos 9) 0 ∷ []

-- half way down from 3 to -2 is 0.5, and "floor goes down, below 0 too"
pub values-worked : all_values items points ≡ pos 0 ∷ pos 1 ∷ pos 3 ∷ pos 0 ∷ negsuc 1 ∷ pos 9 ∷ []
unfolding pick floor_div curve_value values_from span_values values_on curve_values points_after values_of all_values
values-worked = refl

pub table-worked : table_of items points 0 ≡ 3 ∷ 0 ∷ 5 ∷ 0 ∷ 2 ∷ 1 ∷ 5 ∷ 5 ∷ 3 ∷ 0 ∷ 1 ∷ 5 ∷ []
unfolding pick floor_div curve_value values_from span_values values_on curve_values points_after values_of times_of row_of table_of
table-worked = refl
