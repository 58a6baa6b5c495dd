-- What a file says: a piece.
use Rattle.std.specs.Prelude.{ℕ, List}
use Rattle.page.specs.declared.Item.{Item}
use Rattle.contents.specs.Contents.{counts_of, events_at, items_at, messages_at}
use Rattle.items.specs.Items.{items_from}
use Rattle.messages.specs.Messages.{labels_at}
use Rattle.score.specs.Events.{durations_at}

-- The durations of the events in grains, the items, and the labels of the messages. "Page place means position in the item table."
pub record Piece : Type 0 where
  pub durations : List ℕ
  pub items : List Item
  pub labels : List (List ℕ)

unfoldable pub decode : List ℕ → Piece
decode f =
    let c = counts_of f in
    record {
      durations = durations_at f events_at c.events;
      items = items_from f (items_at c) c.items;
      labels = labels_at f c (messages_at c) c.messages;
    }
