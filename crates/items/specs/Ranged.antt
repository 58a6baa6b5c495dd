-- What holds of every item of an accepted file.
use Rattle.std.specs.Prelude.{◌≤◌, ◌<◌}
use Rattle.page.specs.declared.Item.{Item}
use Rattle.contents.specs.Limits.{longest, last_part, most_events, most_items}

-- Every field within its range, so that an item fits one word.
pub record Ranged (i : Item) : Type 0 where
  pub kind : i.kind ≤ 1
  pub synchrony : i.synchrony ≤ 1
  pub error : i.error ≤ 3
  pub part : i.part ≤ last_part
  pub delay : i.delay.0 ≤ longest
  pub event : i.event ≤ most_events
  pub last : i.last < most_items

-- Where a list has no item. No reader hands it out.
abbrev pub blank : Item
blank = record { kind = 0; synchrony = 0; error = 0; part = 0; delay = record { 0 = 0 }; event = 0; last = 0 }
