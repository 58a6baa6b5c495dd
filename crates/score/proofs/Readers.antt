-- What the readers lean on: where an event and an item of an accepted file stand, and that what is read there is what the file says.
-- Assumes nothing.
use mathlib.Core.Path.{◌≡◌, sym, ◌∙◌}
use mathlib.Core.Bool.{true}
use mathlib.Core.List.{List, [], ◌∷◌}
use Prim.Native.Nat.{ℕ, zero, suc, ◌+◌, ◌*◌, ◌<◌, ◌≤◌}
use native.Mathlib.Omega.{arith}
use lib.ListN.{length, get_or}
use borrow.Author.Rules.{rules}
use Rattle.page.specs.declared.Item.{Item}
use Rattle.base.specs.Tests.{between}
use Rattle.base.specs.Checks.{fine}
use Rattle.base.proofs.TestLaws.{between-low, between-high}
use Rattle.base.proofs.CheckLaws.{first_head, first_rest, first_holds}
use Rattle.contents.specs.declared.Counts.{Counts}
use Rattle.contents.specs.Limits.{event_size, item_size, longest, most_events, most_items, most_messages}
use Rattle.contents.specs.Bytes.{u32_at}
use Rattle.contents.specs.Contents.{counts_of, events_at, items_at, size_of}
use Rattle.contents.specs.Inner.{Counted}
use Rattle.items.specs.Items.{item_at}
use Rattle.items.specs.Ranged.{blank}
use Rattle.score.specs.Events.{events_right}
use Rattle.score.specs.Piece.{decode}
use Rattle.score.specs.File.{Accepted}
use Rattle.score.specs.Readers.{EventIn, EventRead, ItemIn, ItemRead}
use Rattle.items.proofs.Decoded.{items-at}
use Rattle.items.proofs.Ranges.{items-ranged}
use Rattle.score.proofs.Decoded.{durations-at, events-decoded, items-decoded}
use Rattle.score.proofs.Accepted.{file-long, file-sized, file-events, file-items}

-- ---- counts

module _ (f : List ℕ) (c : Counts) (accepted : Accepted f) (e : c ≡ counts_of f) where
  pub counted-read : Counted c
  counted-read = rw e (file-sized f accepted).counted

  pub events-read : (c.events ≡ (counts_of f).events) × (1 ≤ c.events) × (c.events ≤ most_events)
  events-read = (rw e, counted-read.some, counted-read.events)

  pub items-read : (c.items ≡ (counts_of f).items) × (c.items ≤ most_items)
  items-read = (rw e, counted-read.items)

  pub messages-read : (c.messages ≡ (counts_of f).messages) × (c.messages ≤ most_messages)
  messages-read = (rw e, counted-read.messages)

-- ---- events

-- each duration of right events, wherever it stands
duration-ranged : (at : ℕ) (ds : List ℕ) (k : ℕ) → events_right at ds ≡ fine → k < length ds → between 1 longest (get_or ds k 0) ≡ true
unfolding events_right
duration-ranged at [] k e lt = absurd (omega arith)
duration-ranged at (d ∷ ds) zero e lt = first_holds _ _ _ e
duration-ranged at (d ∷ ds) (suc k) e lt = duration-ranged (at + event_size) ds k (first_head _ _ (first_rest _ _ e)) (omega arith)

module _ (f : List ℕ) (k : ℕ) (asked : EventIn f k) where
  pub event-within : events_at + event_size * k + event_size ≤ length f
  event-within =
      let b = asked.below in
      let s = (file-sized f asked.accepted).whole in
      omega arith

  pub event_read : (r : ℕ) → r ≡ u32_at f (events_at + event_size * k) → EventRead f k (record { 0 = r })
  unfolding decode
  event_read r e =
      let same : r ≡ get_or (decode f).durations k 0 = e ∙ sym (durations-at f events_at (counts_of f).events k 0 asked.below) in
      let range = duration-ranged events_at (decode f).durations k (file-events f asked.accepted) (rw (events-decoded f) asked.below) in
      record { read = same; some = rw same (between-low _ _ _ range); short = rw same (between-high _ _ _ range) }

-- ---- items

module _ (f : List ℕ) (p : ℕ) (asked : ItemIn f p) where
  pub item-read : (r : Item) (c : Counts) (at : ℕ) → c ≡ counts_of f → at ≡ items_at c → r ≡ item_at f (at + item_size * p) → ItemRead f p r
  unfolding decode
  item-read r c at ec ea e =
      let s = file-sized f asked.accepted in
      let z : r ≡ item_at f (items_at (counts_of f) + item_size * p) = e ∙ rw (ea, ec) in
      let same : r ≡ get_or (decode f).items p blank = z ∙ sym (items-at f (items_at (counts_of f)) (counts_of f).items p blank asked.below) in
      record {
        read = same;
        ranged = rw same (items-ranged (counts_of f) (decode f).items p s.counted (file-items f asked.accepted) (rw (items-decoded f) s.counted.items) (rw (items-decoded f) asked.below));
      }

  module _ (c : Counts) (at : ℕ) (ec : c ≡ counts_of f) (ea : at ≡ items_at c) where
    pub item-within : at + item_size * p + item_size ≤ length f
    item-within =
        let b : p < c.items = rw ec asked.below in
        let s : length f ≡ size_of c = rw ec (file-sized f asked.accepted).whole in
        omega arith

pub ruleset items = (file-long, counted-read, item-read, item-within, rules)
