-- Small extended scores unfolded by the definitions, worked out by hand: a loop, a loop within a loop, and two curves with their messages.
-- Assumes nothing.
use mathlib.Core.Path.{◌≡◌, refl}
use mathlib.Core.List.{List, [], ◌∷◌, ◌++◌}
use Prim.Native.Nat.{ℕ}
use lib.IntN.{pos, negsuc}
use Rattle.page.specs.declared.Item.{Item}
use Rattle.base.specs.Tests.{pick, every}
use Rattle.ascii.specs.Words.{begins, same}
use Rattle.ascii.specs.Decimals.{digits_of, decimal}
use Rattle.contents.specs.Bytes.{part}
use Rattle.values.specs.Integers.{floor_div}
use Rattle.values.specs.Curves.{curve_value, values_from, span_values, values_on, curve_values}
use Rattle.values.specs.Digits.{digits}
use Rattle.extended.specs.declared.Folded.{Folded}
use Rattle.extended.specs.Points.{points_after, values_of, all_values}
use Rattle.unfolding.specs.Messages.{Messages, is_named, number_in, number_of, joined, with_value, with_values, numbers_of}
use Rattle.unfolding.specs.Extended.{Extended, numbered_by, numbered}
use Rattle.unfolding.specs.Unfolded.{pass_item, send_item, passes, sends, inside_of, becomes, within_of, unfolded_to, unfolded, items, actions, depth, group_item, page}
use Rattle.unfolding.specs.Sizes.{score_of}

-- An action's item and a group's, in part 2.
abbrev pub item_of : (kind delay event last : ℕ) → Item
item_of k d e n = record { kind = k; synchrony = 0; error = 0; part = 2; delay = record { 0 = d }; event = e; last = n }

-- A group's with the words tight and causal.
abbrev pub tightly : (kind delay event last : ℕ) → Item
tightly k d e n = record { kind = k; synchrony = 1; error = 3; part = 2; delay = record { 0 = d }; event = e; last = n }

abbrev pub plainly : Item → Folded
plainly i = record { item = i; each = 0; times = 0; pad = 0 }

abbrev pub repeated : Item → (each times : ℕ) → Folded
repeated i e n = record { item = i; each = e; times = n; pad = 0 }

-- no message
abbrev pub silent : Messages
silent = record { entries = []; text = [] }

-- A loop of three passes, 630 grains apart, of an action and a group of one; then an action.
abbrev pub looped : Extended
looped =
    record {
      durations = 5040 ∷ [];
      items =
          repeated (tightly 2 315 1 3) 630 3
          ∷ plainly (item_of 0 10 0 7)
          ∷ plainly (item_of 1 20 0 1)
          ∷ plainly (item_of 0 30 0 8)
          ∷ plainly (item_of 0 40 1 9)
          ∷ [];
      messages = silent;
      points = [];
    }

-- Its body, once.
abbrev pub body : List Item
body = item_of 0 10 0 7 ∷ item_of 1 20 0 1 ∷ item_of 0 30 0 8 ∷ []

pub looped-page : page (score_of looped).items ≡ tightly 1 315 1 12 ∷ tightly 1 0 0 3 ∷ (body ++ tightly 1 630 0 3 ∷ (body ++ tightly 1 630 0 3 ∷ (body ++ item_of 0 40 1 9 ∷ [])))
unfolding page score_of numbered numbered_by numbers_of with_values values_of points_after unfolded unfolded_to becomes inside_of within_of passes pass_item items group_item pick
looped-page = refl

pub looped-counts : (items (score_of looped).items ≡ 14) × (actions (score_of looped).items ≡ 7) × (depth (score_of looped).items ≡ 4)
unfolding page score_of numbered numbered_by numbers_of with_values values_of points_after unfolded unfolded_to becomes inside_of within_of passes pass_item items actions depth group_item pick
looped-counts = (refl, refl, refl)

-- A loop of two passes, 100 grains apart, of a loop of two passes, 10 grains apart, of one action.
abbrev pub nested : Extended
nested =
    record {
      durations = 5040 ∷ [];
      items = repeated (item_of 2 1 1 2) 100 2 ∷ repeated (tightly 2 2 0 1) 10 2 ∷ plainly (item_of 0 3 0 7) ∷ [];
      messages = silent;
      points = [];
    }

abbrev pub inner : List Item
inner = tightly 1 2 0 4 ∷ tightly 1 0 0 1 ∷ item_of 0 3 0 7 ∷ tightly 1 10 0 1 ∷ item_of 0 3 0 7 ∷ []

pub nested-page : page (score_of nested).items ≡ item_of 1 1 1 12 ∷ item_of 1 0 0 5 ∷ (inner ++ item_of 1 100 0 5 ∷ inner)
unfolding page score_of numbered numbered_by numbers_of with_values values_of points_after unfolded unfolded_to becomes inside_of within_of passes pass_item items group_item pick
nested-page = refl

-- Two curves: 0 to 10 and back to -1 in steps of 4 grains over 12 and 8, and one of a single point, 10. Message 0 is "3", and message 1 lies outside the text.
abbrev pub curved : Extended
curved =
    record {
      durations = 5040 ∷ [];
      items = repeated (item_of 3 100 1 0) 4 3 ∷ repeated (item_of 3 50 1 0) 9 1 ∷ [];
      messages = record { entries = record { start = 0; size = 1 } ∷ record { start = 1; size = 2 } ∷ []; text = 51 ∷ [] };
      points = record { value = pos 0; span = 12 } ∷ record { value = pos 10; span = 8 } ∷ record { value = negsuc 0; span = 0 } ∷ record { value = pos 10; span = 0 } ∷ [];
    }

-- The values are 0, 3, 6, then 10 and 10 - 5.5 rounded down, then -1; and 10.
pub curved-values : all_values curved.items curved.points ≡ pos 0 ∷ pos 3 ∷ pos 6 ∷ pos 10 ∷ pos 4 ∷ negsuc 0 ∷ pos 10 ∷ []
unfolding all_values values_of points_after curve_values values_on span_values values_from curve_value floor_div pick
curved-values = refl

-- 3 is message 0; each other joins the list once, the second 10 being there.
pub curved-messages :
    (score_of curved).messages
    ≡ record {
      entries =
          record { start = 0; size = 1 }
          ∷ record { start = 1; size = 2 }
          ∷ record { start = 1; size = 1 }
          ∷ record { start = 2; size = 1 }
          ∷ record { start = 3; size = 2 }
          ∷ record { start = 5; size = 1 }
          ∷ record { start = 6; size = 2 }
          ∷ [];
      text = 51 ∷ 48 ∷ 54 ∷ 49 ∷ 48 ∷ 52 ∷ 45 ∷ 49 ∷ [];
    }
unfolding score_of with_values with_value joined number_of number_in is_named every same begins part digits decimal digits_of all_values values_of points_after curve_values values_on span_values values_from curve_value floor_div pick
curved-messages = refl

pub curved-page :
    page (score_of curved).items
    ≡ item_of 1 100 1 6
    ∷ item_of 0 0 0 2
    ∷ item_of 0 4 0 0
    ∷ item_of 0 4 0 3
    ∷ item_of 0 4 0 4
    ∷ item_of 0 4 0 5
    ∷ item_of 0 4 0 6
    ∷ item_of 1 50 1 1
    ∷ item_of 0 0 0 4
    ∷ []
unfolding page score_of numbered numbered_by numbers_of with_values with_value joined number_of number_in is_named every same begins part digits decimal digits_of values_of points_after curve_values values_on span_values values_from curve_value floor_div unfolded unfolded_to becomes inside_of within_of sends send_item items group_item pick
curved-page = refl
