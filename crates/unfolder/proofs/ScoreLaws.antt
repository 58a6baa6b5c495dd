-- What the counts, the table and the list that were found say of the unfolded score and its limits.
-- Assumes nothing.
use mathlib.Core.Path.{◌≡◌, refl}
use mathlib.Core.Bool.{Bool, true, false}
use mathlib.Core.List.{List}
use Prim.Native.Nat.{ℕ, ◌+◌, ◌*◌, ◌≤◌}
use native.Mathlib.Omega.{arith}
use lib.ListN.{length, take, drop, length-drop}
use lib.Seq.{length-take-le}
use borrow.Author.Tests.{leb-true, le-leb}
use Rattle.std.specs.Prelude.{Err}
use Rattle.base.specs.Tests.{pick, every}
use Rattle.base.specs.Checks.{fine}
use Rattle.base.proofs.TestLaws.{every-head, every_rest, between-low, between-high, between_in}
use Rattle.contents.specs.Limits.{most_events, most_items, most_messages, most_text}
use Rattle.contents.specs.Bytes.{part}
use Rattle.score.proofs.Decoded.{durations-length}
use Rattle.extended.specs.declared.Extent.{Extent}
use Rattle.extended.specs.Layout.{extent_of, events_start, items_start, messages_start, text_start}
use Rattle.extended.specs.Inner.{Foldable}
use Rattle.shapes.specs.Limits.{row_words}
use Rattle.tables.specs.Tables.{items_in, points_in, values_in, table_in}
use Rattle.extended.proofs.ListLaws.{folded-length}
use Rattle.unfolding.specs.declared.UnfoldError.TheVariants.{OverLimit}
use Rattle.unfolding.specs.Messages.{with_values}
use Rattle.unfolding.specs.Extended.{extended_of, numbered}
use Rattle.unfolding.specs.Unfolded.{unfolded, items, actions}
use Rattle.unfolding.specs.Sizes.{score_of, within_limits}
use Rattle.unfolding.specs.Answers.{answered, room_left}
use Rattle.unfolding.proofs.MessageLaws.{grown-values, entries-grow, text-grows, entries-length}
use Rattle.building.specs.Rows.{Rows}
use Rattle.building.proofs.LeastLaws.{items-least, actions-least}
use Rattle.building.proofs.RowLaws.{rows-laid}
use Rattle.unfolding.proofs.LimitLaws.{Limits, limits-held}
use Rattle.unfolder.specs.Inner.{Answers, score_in, few}

-- ---- the limits

-- a score that is not within them is told so, and the room stays
pub over-limit : (f m : List ℕ) → (Limits (score_in f) → ⊥) → Answers f m m (Err OverLimit)
unfolding answered pick score_in room_left
over-limit f m past = record { answer = go (within_limits (score_in f)) refl; left = refl } where
  go : (b : Bool) → within_limits (score_in f) ≡ b → Err OverLimit ≡ answered f fine
  go true e = absurd (past (limits-held (score_in f) e))
  go false e = rw e

-- ---- the score of a file with these counts

module _ (f : List ℕ) (c : Extent) (right : Foldable f c) where
  pub items-are : (score_in f).items ≡ unfolded (numbered (items_in f c) (points_in f c) (extended_of f).messages)
  unfolding score_in score_of extended_of
  items-are = rw right.counts

  pub messages-are : (score_in f).messages ≡ with_values (extended_of f).messages (values_in f c)
  unfolding score_in score_of extended_of
  messages-are = rw right.counts

  pub events-are : length (score_in f).durations ≡ c.events
  unfolding score_in score_of extended_of
  events-are = rw right.counts (durations-length f events_start (extent_of f).events)

  own-messages : length (extended_of f).messages.entries ≡ c.messages
  unfolding extended_of
  own-messages = rw right.counts (entries-length f (messages_start (extent_of f)) (extent_of f).messages)

  own-text : length (extended_of f).messages.text ≡ c.text
  unfolding extended_of part
  own-text =
      let w : length f ≡ text_start c + c.text + 8 * c.points = right.whole in
      let d = length-drop (text_start c) f in
      rw (← right.counts) (length-take-le c.text (drop (text_start c) f) (omega arith))

  pub page-least : c.items ≤ items (score_in f).items
  page-least =
      let a = items-least (items_in f c) (points_in f c) (extended_of f).messages right.folds in
      let b : length (items_in f c) ≡ c.items = folded-length f (items_start c) c.items in
      rw items-are (omega arith)

  pub values-least : length (values_in f c) ≤ actions (score_in f).items
  values-least = rw items-are (actions-least (items_in f c) (points_in f c) (extended_of f).messages right.folds)

  pub messages-least : c.messages ≤ length (score_in f).messages.entries
  messages-least =
      let g = entries-grow (extended_of f).messages _ (grown-values (extended_of f).messages (values_in f c)) in
      let a = own-messages in
      rw messages-are (omega arith)

  pub text-least : c.text ≤ length (score_in f).messages.text
  text-least =
      let g = text-grows (extended_of f).messages _ (grown-values (extended_of f).messages (values_in f c)) in
      let a = own-text in
      rw messages-are (omega arith)

  -- counts past a limit, in the page itself
  pub few-held : Limits (score_in f) → few c ≡ true
  unfolding few every
  few-held l =
      let e = events-are in
      rw (
        between_in 1 most_events c.events (omega (arith, l.some)) (omega (arith, l.events_few)),
        le-leb c.items most_items (omega (arith, page-least, l.items_few)),
        le-leb c.messages most_messages (omega (arith, messages-least, l.messages_few)),
        le-leb c.text most_text (omega (arith, text-least, l.text_short)),
      )

pub record Few (c : Extent) : Type 0 where
  pub some : 1 ≤ c.events
  pub events : c.events ≤ most_events
  pub items : c.items ≤ most_items
  pub messages : c.messages ≤ most_messages
  pub text : c.text ≤ most_text

pub few-is : (c : Extent) → few c ≡ true → Few c
unfolding few
few-is c e =
    let e₁ = every_rest _ _ e in
    let e₂ = every_rest _ _ e₁ in
    let e₃ = every_rest _ _ e₂ in
    record {
      some = between-low _ _ _ (every-head _ _ e);
      events = between-high _ _ _ (every-head _ _ e);
      items = leb-true _ _ (every-head _ _ e₁);
      messages = leb-true _ _ (every-head _ _ e₂);
      text = leb-true _ _ (every-head _ _ e₃);
    }

-- ---- the table's rows

-- the rows of a file's own items stand at the front of the table
pub rows_are : (f : List ℕ) (c : Extent) (table : List ℕ) → take (row_words * c.items) table ≡ table_in f c → Rows table 0 0 (items_in f c) (points_in f c)
rows_are f c table e =
    let n : length (items_in f c) ≡ c.items = folded-length f (items_start c) c.items in
    rows-laid table (items_in f c) (points_in f c) (rw n e)
