-- The entry of a place is told by what is left of the place behind each table.
-- Assumes nothing.
use mathlib.Core.Path.{◌≡◌}
use Prim.Native.Nat.{ℕ, ◌+◌, ◌-◌, ◌*◌, ◌/◌, ◌<◌, ◌≤◌}
use native.Mathlib.Omega.{arith}
use borrow.Author.Rules.{rules}
use borrow.Author.Tests.{lt-ltb, le-ltb}
use Rattle.base.specs.Tests.{pick}
use Rattle.contents.specs.declared.Counts.{Counts}
use Rattle.contents.specs.declared.entries.Entry.TheVariants.{Nowhere, Contents, Event, Item, Message}
use Rattle.contents.specs.Limits.{event_size, item_size, message_size}
use Rattle.contents.specs.Contents.{events_at, items_at, messages_at, text_at}
use Rattle.contents.specs.Entries.{field_size, entry_at}

-- ---- a place and the counts

module _ (c : Counts) (at : ℕ) where
  pub in-contents : at < events_at → Contents (at / field_size) ≡ entry_at c at
  unfolding entry_at pick
  in-contents p = rw (lt-ltb at events_at p)

  module _ (p : events_at ≤ at) where
    pub in_event : (at - events_at) / event_size < c.events → Event (1 + (at - events_at) / event_size) ≡ entry_at c at
    unfolding entry_at pick
    in_event q = rw (le-ltb at events_at p, lt-ltb at (items_at c) (omega arith))

    module _ (q : c.events ≤ (at - events_at) / event_size) where
      pub in_item : (at - events_at - event_size * c.events) / item_size < c.items → Item ((at - events_at - event_size * c.events) / item_size) ≡ entry_at c at
      unfolding entry_at pick
      in_item r =
          let e : at - events_at - event_size * c.events ≡ at - items_at c = omega arith in
          rw (le-ltb at events_at p, le-ltb at (items_at c) (omega arith), lt-ltb at (messages_at c) (omega arith), e)

      module _ (r : c.items ≤ (at - events_at - event_size * c.events) / item_size) where
        pub in-message : (at - events_at - event_size * c.events - item_size * c.items) / message_size < c.messages
            → Message ((at - events_at - event_size * c.events - item_size * c.items) / message_size) ≡ entry_at c at
        unfolding entry_at pick
        in-message s =
            let e : at - events_at - event_size * c.events - item_size * c.items ≡ at - messages_at c = omega arith in
            rw (le-ltb at events_at p, le-ltb at (items_at c) (omega arith), le-ltb at (messages_at c) (omega arith), lt-ltb at (text_at c) (omega arith), e)

        pub in-none : c.messages ≤ (at - events_at - event_size * c.events - item_size * c.items) / message_size → Nowhere ≡ entry_at c at
        unfolding entry_at pick
        in-none s = rw (le-ltb at events_at p, le-ltb at (items_at c) (omega arith), le-ltb at (messages_at c) (omega arith), le-ltb at (text_at c) (omega arith))

pub ruleset entering = (in-contents, in_event, in_item, in-message, in-none, rules)

-- ---- the entry of a place

module _ (c : Counts) where
  pub event-at : (k : ℕ) → k < c.events → entry_at c (events_at + event_size * k) ≡ Event (1 + k)
  unfolding entry_at pick
  event-at k p =
      let q : (events_at + event_size * k - events_at) / event_size ≡ k = omega arith in
      rw (le-ltb (events_at + event_size * k) events_at (omega arith), lt-ltb (events_at + event_size * k) (items_at c) (omega arith), q)

  pub item-at : (p k : ℕ) → p < c.items → k < item_size → entry_at c (items_at c + item_size * p + k) ≡ Item p
  unfolding entry_at pick
  item-at p k l m =
      let at = items_at c + item_size * p + k in
      let q : (at - items_at c) / item_size ≡ p = omega arith in
      rw (le-ltb at events_at (omega arith), le-ltb at (items_at c) (omega arith), lt-ltb at (messages_at c) (omega arith), q)

  pub message-at : (n : ℕ) → n < c.messages → entry_at c (messages_at c + message_size * n) ≡ Message n
  unfolding entry_at pick
  message-at n l =
      let q : (messages_at c + message_size * n - messages_at c) / message_size ≡ n = omega arith in
      rw (le-ltb (messages_at c + message_size * n) events_at (omega arith), le-ltb (messages_at c + message_size * n) (items_at c) (omega arith), le-ltb (messages_at c + message_size * n) (messages_at c) (omega arith), lt-ltb (messages_at c + message_size * n) (messages_at c + message_size * c.messages) (omega arith), q)
