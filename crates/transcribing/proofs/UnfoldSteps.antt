-- What is said of an extended score, case by case; and which entry of the unfolded file is told.
-- Assumes nothing.
use mathlib.Core.Path.{◌≡◌}
use mathlib.Core.List.{List}
use Prim.Native.Nat.{ℕ, ◌+◌, ◌-◌, ◌*◌, ◌/◌, ◌<◌, ◌≤◌}
use native.Mathlib.Omega.{arith}
use lib.ListN.{length}
use borrow.Author.Rules.{rules}
use borrow.Author.Tests.{le-leb, lt-leb, lt-ltb, le-ltb}
use Rattle.std.specs.Prelude.{Result, Ok, Err}
use Rattle.base.specs.Tests.{pick}
use Rattle.ascii.specs.Laying.{Laid}
use Rattle.contents.specs.declared.Counts.{Counts}
use Rattle.contents.specs.declared.Fault.{Fault}
use Rattle.contents.specs.declared.Fault.TheVariants.{BadEvent, BadItem}
use Rattle.contents.specs.declared.ItemRule.{ItemRule}
use Rattle.contents.specs.Limits.{most_items, event_size, item_size}
use Rattle.contents.specs.Replies.{rule_row}
use Rattle.contents.specs.Contents.{events_at, items_at}
use Rattle.contents.proofs.RuleRows.{field-within}
use Rattle.session.specs.declared.Refusal.TheVariants.{File}
use Rattle.streams.specs.declared.ending.Ending.TheVariants.{Done, Refused}
use Rattle.extended.specs.declared.Extent.{Extent}
use Rattle.extended.specs.Layout.{extended_contents, extent_of}
use Rattle.unfolding.specs.declared.UnfoldError.{UnfoldError}
use Rattle.unfolding.specs.declared.UnfoldError.TheVariants.{NoRoom, BadExtended, OverLimit, BadFile}
use Rattle.contents.specs.declared.entries.Entry.TheVariants.{Event, Item}
use Rattle.contents.specs.Entries.{entry_at}
use Rattle.refusals.specs.Texts.{unmade_line}
use Rattle.transcribing.specs.Unfolds.{events_folded, items_told, counts_folded, unfold_ending}

-- ---- counts

pub events-none : (f : List ℕ) → length f < extended_contents → 0 ≡ events_folded f
unfolding events_folded pick
events-none f p = rw (lt-leb extended_contents (length f) p)

pub events-read : (f : List ℕ) (c : Extent) → extended_contents ≤ length f → c ≡ extent_of f → c.events ≡ events_folded f
unfolding events_folded pick
events-read f c p e = rw (le-leb extended_contents (length f) p, e)

pub counts-folded : (f : List ℕ) (x : Fault) (n k : ℕ) → n ≡ events_folded f → k ≡ items_told x → record { events = n; items = k; messages = 0; text = 0 } ≡ counts_folded f x
unfolding counts_folded
counts-folded f x n k p q = rw (p, q)

pub ruleset folded-counts = (events-none, events-read, counts-folded, rules)

-- ---- lines

pub lay-unfolded : (o n name f : List ℕ) (r : ℕ) (c : Counts) (x : Fault) → c ≡ counts_folded f x → Laid o 0 (unmade_line name c (File x)) n r
    → Laid o 0 (unmade_line name (counts_folded f x) (File x)) n r
lay-unfolded o n name f r c x e l = rw (← e) l

pub ruleset unfolds = (lay-unfolded, rules)

-- ---- endings

pub unfold-ending-made : (u : Result ℕ UnfoldError) (k : ℕ) → u ≡ Ok k → Done ≡ unfold_ending u
unfolding unfold_ending
unfold-ending-made u k e = rw e

pub unfold-ending-refused : (u : Result ℕ UnfoldError) (x : UnfoldError) → u ≡ Err x → Refused ≡ unfold_ending u
unfolding unfold_ending
unfold-ending-refused u NoRoom e = rw e
unfold-ending-refused u (BadExtended place) e = rw e
unfold-ending-refused u OverLimit e = rw e
unfold-ending-refused u (BadFile x) e = rw e

pub ruleset unfold-endings = (unfold-ending-made, unfold-ending-refused, rules)

-- ---- the entry told is the one in which the check's place lies

module _ (f : List ℕ) (c : Counts) (same : c.events ≡ events_folded f) where
  pub event-told : (k : ℕ) → k < c.events → entry_at (counts_folded f (BadEvent (events_at + event_size * k))) (events_at + event_size * k) ≡ Event (1 + k)
  unfolding entry_at counts_folded pick
  event-told k p =
      let q : (events_at + event_size * k - events_at) / event_size ≡ k = omega arith in
      rw (le-ltb (events_at + event_size * k) events_at (omega arith), lt-ltb (events_at + event_size * k) (events_at + event_size * events_folded f) (omega arith), q)

  pub item-told : (p : ℕ) (r : ItemRule) → p < most_items → entry_at (counts_folded f (BadItem r (items_at c + item_size * p + (rule_row r).offset))) (items_at c + item_size * p + (rule_row r).offset) ≡ Item p
  unfolding entry_at counts_folded items_told pick
  item-told p r l =
      let at = items_at c + item_size * p + (rule_row r).offset in
      let k = field-within r in
      let q : (at - (events_at + event_size * events_folded f)) / item_size ≡ p = omega arith in
      rw (le-ltb at events_at (omega arith), le-ltb at (events_at + event_size * events_folded f) (omega arith), lt-ltb at (events_at + event_size * events_folded f + item_size * most_items) (omega arith), q)
