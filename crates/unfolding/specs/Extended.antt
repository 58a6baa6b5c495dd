-- What an extended score says: a piece with loops and curves, and the message numbers of its curves' values.
use Rattle.std.specs.Prelude.{ℕ, List, [], ◌∷◌}
use Rattle.page.specs.declared.Item.{Item}
use Rattle.base.specs.Tests.{pick}
use Rattle.contents.specs.Bytes.{part}
use Rattle.score.specs.Events.{durations_at}
use Rattle.values.specs.Curves.{Point}
use Rattle.extended.specs.declared.Folded.{Folded}
use Rattle.extended.specs.Layout.{extent_of, events_start, items_start, messages_start, text_start, points_start}
use Rattle.extended.specs.Folds.{is_loop, folded_from}
use Rattle.extended.specs.Points.{points_from, points_after, values_of}
use Rattle.unfolding.specs.Messages.{Messages, entries_from, with_values, numbers_of}

-- "Events, messages and text as in document 01."
pub record Extended : Type 0 where
  pub durations : List ℕ
  pub items : List Folded
  pub messages : Messages
  pub points : List Point

unfoldable pub extended_of : List ℕ → Extended
extended_of f =
    let c = extent_of f in
    record {
      durations = durations_at f events_start c.events;
      items = folded_from f (items_start c) c.items;
      messages = record { entries = entries_from f (messages_start c) c.messages; text = part f (text_start c) c.text };
      points = points_from f (points_start c) c.points;
    }

-- An item with its passes, none where it is no loop, and the message numbers of its values, none where it is no curve.
pub record Numbered : Type 0 where
  pub item : Item
  pub each : ℕ
  pub times : ℕ
  pub numbers : List ℕ

unfoldable pub numbered_by : Folded → List ℕ → Numbered
numbered_by i ns = record { item = i.item; each = i.each; times = pick (is_loop i) i.times 0; numbers = ns }

-- "added at the end, in page order": each item's values join the list as those of the items before it left it.
unfoldable pub numbered : List Folded → List Point → Messages → List Numbered
numbered [] ps m = []
numbered (i ∷ is) ps m =
    numbered_by i (numbers_of m (values_of i ps)) ∷ numbered is (points_after i ps) (with_values m (values_of i ps))
