-- A score is within the limits if each limit holds, and then its counts can be written.
-- Assumes nothing.
use mathlib.Core.Path.{◌≡◌}
use mathlib.Core.Bool.{true}
use Prim.Native.Nat.{◌≤◌}
use lib.ListN.{length}
use borrow.Author.Tests.{leb-true, le-leb}
use Rattle.base.specs.Tests.{every}
use Rattle.base.proofs.TestLaws.{every-head, every_rest, between-low, between-high, between_in}
use Rattle.contents.specs.Limits.{most_events, most_items, most_actions, most_messages, most_text, deepest}
use Rattle.contents.specs.Inner.{Counted}
use Rattle.unfolding.specs.Unfolded.{items, actions, depth}
use Rattle.unfolding.specs.Sizes.{Score, counts_on, within_limits}

pub record Limits (s : Score) : Type 0 where
  pub some : 1 ≤ length s.durations
  pub events_few : length s.durations ≤ most_events
  pub items_few : items s.items ≤ most_items
  pub actions_few : actions s.items ≤ most_actions
  pub messages_few : length s.messages.entries ≤ most_messages
  pub text_short : length s.messages.text ≤ most_text
  pub shallow : depth s.items ≤ deepest

pub limits-held : (s : Score) → within_limits s ≡ true → Limits s
unfolding within_limits
limits-held s e =
    let e₁ = every_rest _ _ e in
    let e₂ = every_rest _ _ e₁ in
    let e₃ = every_rest _ _ e₂ in
    let e₄ = every_rest _ _ e₃ in
    let e₅ = every_rest _ _ e₄ in
    record {
      some = between-low _ _ _ (every-head _ _ e);
      events_few = between-high _ _ _ (every-head _ _ e);
      items_few = leb-true _ _ (every-head _ _ e₁);
      actions_few = leb-true _ _ (every-head _ _ e₂);
      messages_few = leb-true _ _ (every-head _ _ e₃);
      text_short = leb-true _ _ (every-head _ _ e₄);
      shallow = leb-true _ _ (every-head _ _ e₅);
    }

pub limits-hold : (s : Score) → Limits s → within_limits s ≡ true
unfolding within_limits every
limits-hold s l =
    rw (
      between_in 1 most_events (length s.durations) l.some l.events_few,
      le-leb (items s.items) most_items l.items_few,
      le-leb (actions s.items) most_actions l.actions_few,
      le-leb (length s.messages.entries) most_messages l.messages_few,
      le-leb (length s.messages.text) most_text l.text_short,
      le-leb (depth s.items) deepest l.shallow,
    )

-- The contents of its file can hold its counts.
pub limits-counted : (s : Score) → within_limits s ≡ true → Counted (counts_on s)
unfolding counts_on
limits-counted s e =
    let l = limits-held s e in
    record { some = l.some; events = l.events_few; items = l.items_few; messages = l.messages_few; text = l.text_short }
