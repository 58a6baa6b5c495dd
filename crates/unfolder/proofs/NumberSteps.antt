-- The steps of numbering the values and laying the page, in the code's own terms.
-- Assumes nothing.
use mathlib.Core.Path.{◌≡◌, sym, ap}
use mathlib.Core.Bool.{true, false}
use mathlib.Core.List.{List, map}
use Prim.Native.Nat.{ℕ, ◌+◌, ◌*◌, ◌≤◌}
use native.Mathlib.Omega.{arith}
use lib.ListN.{length, take}
use borrow.Author.Rules.{rules}
use Rattle.std.specs.Prelude.{Option, Some, None, Err}
use Rattle.ascii.specs.Laying.{Laid}
use Rattle.contents.specs.declared.Counts.{Counts}
use Rattle.contents.specs.Limits.{item_size, most_items, most_actions, deepest}
use Rattle.score.specs.Encode.{item_bytes}
use Rattle.filing.specs.Bodies.{ListRoom}
use Rattle.values.specs.Inner.{value_of}
use Rattle.extended.specs.declared.Extent.{Extent}
use Rattle.extended.specs.Layout.{folded_size, items_start, whole_size}
use Rattle.shapes.specs.Shapes.{shapes_from}
use Rattle.tables.specs.Tables.{items_in, points_in, values_in, Valued}
use Rattle.tables.proofs.ValueLaws.{valued-below}
use Rattle.unfolding.specs.declared.UnfoldError.TheVariants.{OverLimit}
use Rattle.unfolding.specs.Extended.{extended_of, numbered}
use Rattle.unfolding.specs.Unfolded.{unfolded, items, actions, depth, page}
use Rattle.unfolding.specs.Sizes.{counts_on, within_limits}
use Rattle.naming.specs.declared.Named.{Named}
use Rattle.naming.specs.Named.{fits, Namable, Names}
use Rattle.naming.proofs.GrowthLaws.{fits_both}
use Rattle.naming.proofs.Told.{told_over, told_named, told-numbers}
use Rattle.building.specs.Rows.{numbered_in, shapes_of}
use Rattle.building.proofs.RowLaws.{numbered-here, shapes-read}
use Rattle.building.proofs.PageLaws.{bytes-length}
use Rattle.unfolding.proofs.LimitLaws.{Limits, limits-held, limits-hold}
use Rattle.unfolder.specs.Inner.{Answers, score_in, Built, Measured, Nameable, Listed}
use Rattle.unfolder.proofs.ScoreLaws.{over-limit, items-are, messages-are, events-are, few-is, rows_are}

-- ---- the values

module _ (f : List ℕ) (c : Extent) (t : List ℕ) (n : ℕ) (asked : Measured f c t n) where
  pub name-asked : (values : List ℕ) (count : ℕ) → Valued f c values count → most_actions ≤ length values → Nameable f c t n values count
  name-asked values count v r = record { measured = asked; valued = v; room = r }

pub ruleset numbers = (name-asked, rules)

-- ---- their names

module _ (f : List ℕ) (c : Extent) (t : List ℕ) (n : ℕ) (values : List ℕ) (count : ℕ) (asked : Nameable f c t n values count) where
  pub names-asked : (es ls ns : List ℕ) → ListRoom es ls → most_actions ≤ length ns → Namable f c values count es ls ns
  names-asked es ls ns p r =
      let few = few-is c asked.measured.short in
      let v = asked.valued in
      let most : count ≤ most_actions = v.few in
      record {
        score = asked.measured.foldable;
        few = few.messages;
        short = few.text;
        count_most = most;
        count_there = omega (arith, asked.room);
        small = valued-below f c values count v (omega (arith, asked.room));
        entries_room = p.entries;
        labels_room = p.labels;
        numbers_room = r;
      }

  module _ (es ls ns : List ℕ) (r : Option Named) (names : Names (extended_of f).messages (map value_of (take count values)) count es ls ns r) where
    listed : Names (extended_of f).messages (values_in f c) count es ls ns r
    listed = rw asked.valued.values at names

    pub names-over : (m : List ℕ) → r ≡ None → Answers f m m (Err OverLimit)
    names-over m e =
        over-limit f m
        (λ l. let a : fits (score_in f).messages ≡ true = fits_both (score_in f).messages l.messages_few l.text_short in
        let b : fits (score_in f).messages ≡ false = rw (messages-are f c asked.measured.foldable) (told_over _ _ count es ls ns r listed e) in
        let z : ◌≡◌ {A = ℕ} 0 1 = cc in omega arith)

    module _ (a : Named) (e : r ≡ Some a) where
      named-limits : within_limits (score_in f) ≡ true
      named-limits =
          let k = told_named _ _ count es ls ns r listed a e in
          let m = messages-are f c asked.measured.foldable in
          let few = few-is c asked.measured.short in
          let v = events-are f c asked.measured.foldable in
          let p : a.messages ≡ length (score_in f).messages.entries = rw m k.count in
          let q : a.text ≡ length (score_in f).messages.text = rw m k.size in
          limits-hold (score_in f) (record {
            some = omega (arith, few.some);
            events_few = omega (arith, few.events);
            items_few = asked.measured.items_few;
            actions_few = asked.measured.actions_few;
            messages_few = omega (arith, k.few);
            text_short = omega (arith, k.short);
            shallow = asked.measured.shallow;
          })

      pub names-listed : (es₀ ls₀ : List ℕ) → ListRoom es₀ ls₀ → length es ≡ length es₀ → length ls ≡ length ls₀ → Listed f c t ns (record { events = c.events; items = n; messages = a.messages; text = a.text }) es ls
      unfolding counts_on
      names-listed es₀ ls₀ p u v =
          let k = told_named _ _ count es ls ns r listed a e in
          let m = messages-are f c asked.measured.foldable in
          let w : count ≡ length (values_in f c) = asked.valued.count in
          record {
            foldable = asked.measured.foldable;
            rows = asked.measured.rows;
            room = asked.measured.room;
            numbers_stand = rw (← w) (told-numbers _ _ count es ls ns r listed a e);
            counts = rw (m, events-are f c asked.measured.foldable, ← asked.measured.count, ← k.count, ← k.size);
            limits = named-limits;
            entries = rw m k.entries;
            labels = rw m k.text;
            list_room = record { entries = omega (arith, p.entries); labels = omega (arith, p.labels) };
          }

pub ruleset named = (names-asked, names-over, names-listed, rules)

-- ---- the page

module _ (f : List ℕ) (c : Extent) (t ns : List ℕ) (k : Counts) (es ls : List ℕ) (asked : Listed f c t ns k es ls) where
  numbered_is : numbered_in f (items_start c) t ns 0 c.items ≡ numbered (items_in f c) (points_in f c) (extended_of f).messages
  numbered_is = numbered-here f (items_start c) t ns c.items (points_in f c) (extended_of f).messages (rows_are f c t asked.rows) asked.numbers_stand

  unfolded_is : unfolded (numbered_in f (items_start c) t ns 0 c.items) ≡ (score_in f).items
  unfolded_is = rw numbered_is (sym (items-are f c asked.foldable))

  within : Limits (score_in f)
  within = limits-held (score_in f) asked.limits

  module _ (start : ℕ) (s : start ≡ items_start c) where
    pub page-bytes : start + folded_size * c.items ≤ length f
    page-bytes = let w : length f ≡ whole_size c = asked.foldable.whole in omega arith

    pub page-shapes : shapes_from t 0 c.items ≡ shapes_of (numbered_in f start t ns 0 c.items)
    page-shapes = rw s (shapes-read f (items_start c) t ns c.items (points_in f c) (extended_of f).messages (rows_are f c t asked.rows) asked.foldable.folds asked.numbers_stand)

    pub page-items : items (unfolded (numbered_in f start t ns 0 c.items)) ≤ most_items
    page-items = rw (s, unfolded_is) within.items_few

    pub page-actions : actions (unfolded (numbered_in f start t ns 0 c.items)) ≤ most_actions
    page-actions = rw (s, unfolded_is) within.actions_few

    pub page-depth : depth (unfolded (numbered_in f start t ns 0 c.items)) ≤ deepest
    page-depth = rw (s, unfolded_is) within.shallow

    pub page-room : (o : List ℕ) → item_size * most_items ≤ length o → item_size * items (unfolded (numbered_in f start t ns 0 c.items)) ≤ length o
    page-room o p = let i = page-items in omega arith

    pub page-built : (o is : List ℕ) (r : ℕ) → item_size * most_items ≤ length o → Laid o 0 (item_bytes (page (unfolded (numbered_in f start t ns 0 c.items)))) is r → Built f k is es ls
    unfolding counts_on
    page-built o is r p laid =
        let l : Laid o 0 (item_bytes (page (score_in f).items)) is r = rw (s, unfolded_is) at laid in
        let q : k.items ≡ items (score_in f).items = ap (λ (x : Counts). x.items) asked.counts in
        let g : k.events ≡ length (score_in f).durations = ap (λ (x : Counts). x.events) asked.counts in
        let h = events-are f c asked.foldable in
        let b : length (item_bytes (page (score_in f).items)) ≡ item_size * items (score_in f).items = bytes-length (score_in f).items in
        let a : r ≡ item_size * k.items = omega (arith, l.stop) in
        let z : length is ≡ length o = l.size in
        let w : length f ≡ whole_size c = asked.foldable.whole in
        record {
          counts = asked.counts;
          limits = asked.limits;
          events = omega arith;
          items = rw (← a) l.front;
          entries = asked.entries;
          labels = asked.labels;
          item_room = omega arith;
          list_room = asked.list_room;
        }

pub ruleset pages = (page-bytes, page-shapes, page-items, page-actions, page-depth, page-room, page-built, rules)
