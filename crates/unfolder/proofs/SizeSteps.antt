-- The steps of finding the sizes, in the code's own terms.
-- Assumes nothing.
use mathlib.Core.Path.{◌≡◌, sym, ◌∙◌}
use mathlib.Core.Bool.{Bool, true, false, not}
use mathlib.Core.List.{List}
use Prim.Native.Nat.{ℕ, ◌*◌, ◌≤◌}
use native.Mathlib.Omega.{arith}
use lib.ListN.{length, take}
use borrow.Author.Rules.{rules}
use Rattle.std.specs.Prelude.{Option, Some, None, Err}
use Rattle.base.specs.Checks.{fine}
use Rattle.base.proofs.TestLaws.{told-true, told-false}
use Rattle.ascii.specs.Laying.{Laid}
use Rattle.contents.specs.Limits.{most_items}
use Rattle.extended.specs.declared.Extent.{Extent}
use Rattle.extended.specs.Layout.{extended_contents, extent_of, items_start}
use Rattle.extended.specs.Right.{extended_right}
use Rattle.extended.specs.Inner.{SmallExtent, Foldable}
use Rattle.extended.proofs.RightLaws.{contents-long, right-contents}
use Rattle.folding.proofs.RightLaws.{right-foldable}
use Rattle.shapes.specs.declared.Sizes.{Sizes}
use Rattle.shapes.specs.Limits.{row_words}
use Rattle.shapes.specs.Shapes.{shapes_from}
use Rattle.shapes.specs.Shapes as shapes
use Rattle.shapes.specs.Sizes.{sizes_of}
use Rattle.shapes.proofs.SizeLaws.{within-exact, over-exact}
use Rattle.tables.specs.Tables.{points_in, table_in, Tabled}
use Rattle.tables.proofs.TableLaws.{filled-few, filled-laid, over-many}
use Rattle.unfolding.specs.declared.UnfoldError.TheVariants.{OverLimit}
use Rattle.unfolding.specs.Extended.{extended_of}
use Rattle.unfolding.specs.Unfolded.{items, actions, depth}
use Rattle.building.proofs.RowLaws.{items-here, actions-here, depth-here}
use Rattle.unfolder.specs.Inner.{Answers, score_in, few, Sizable, Measured}
use Rattle.unfolder.proofs.ScoreLaws.{over-limit, items-are, values-least, few-held, few-is, rows_are}

-- ---- the counts

module _ (f : List ℕ) (right : extended_right f ≡ fine) where
  pub right-long : extended_contents ≤ length f
  right-long = contents-long f (right-contents f right)

  module _ (c : Extent) (counts : c ≡ extent_of f) (small : SmallExtent c) where
    foldable : Foldable f c
    foldable = rw counts (right-foldable f right (rw counts at small))

    pub counts-over : (t : Bool) (m : List ℕ) → t ≡ few c → not t ≡ true → Answers f m m (Err OverLimit)
    counts-over t m e p =
        over-limit f m (λ l. let a : few c ≡ true = few-held f c foldable l in let b : few c ≡ false = told-false t (few c) e p in let z : ◌≡◌ {A = ℕ} 0 1 = cc in omega arith)

    pub page-asked : (t : Bool) (table : List ℕ) → t ≡ few c → not t ≡ false → row_words * most_items ≤ length table → Sizable f c table
    page-asked t table e p r = record { foldable = foldable; short = told-true t (few c) e p; room = r }

pub ruleset measures = (right-long, counts-over, page-asked, rules)

-- ---- the table and the sizes

module _ (f : List ℕ) (c : Extent) (t : List ℕ) (asked : Sizable f c t) where
  pub items-most : c.items ≤ most_items
  items-most = (few-is c asked.short).items

  module _ (t' : List ℕ) (r : Option ℕ) (tabled : Tabled f c t t' r) where
    pub table-over : (m : List ℕ) → r ≡ None → Answers f m m (Err OverLimit)
    table-over m e =
        over-limit f m (λ l. let n = over-many f c t t' (rw e at tabled) in let k = values-least f c asked.foldable in omega (arith, l.actions_few))

    module _ (n : ℕ) (filled : r ≡ Some n) where
      table-laid : Laid t 0 (table_in f c) t' (row_words * c.items)
      table-laid = filled-laid f c t t' n (rw filled at tabled)

      pub table-room : row_words * c.items ≤ length t'
      table-room = table-laid.within

      table-rows : take (row_words * c.items) t' ≡ table_in f c
      table-rows = table-laid.front

      tree-items : shapes.items (shapes.unfolded (shapes_from t' 0 c.items)) ≡ items (score_in f).items
      tree-items =
          rw (items-are f c asked.foldable)
          (items-here f (items_start c) t' t' c.items (points_in f c) (extended_of f).messages (rows_are f c t' table-rows) asked.foldable.folds)

      tree-actions : shapes.actions (shapes.unfolded (shapes_from t' 0 c.items)) ≡ actions (score_in f).items
      tree-actions =
          rw (items-are f c asked.foldable)
          (actions-here f (items_start c) t' t' c.items (points_in f c) (extended_of f).messages (rows_are f c t' table-rows) asked.foldable.folds)

      tree-depth : shapes.depth (shapes.unfolded (shapes_from t' 0 c.items)) ≡ depth (score_in f).items
      tree-depth =
          rw (items-are f c asked.foldable)
          (depth-here f (items_start c) t' t' c.items (points_in f c) (extended_of f).messages (rows_are f c t' table-rows) asked.foldable.folds)

      module _ (w : Option Sizes) (found : w ≡ sizes_of (shapes.unfolded (shapes_from t' 0 c.items))) where
        pub sizes-over : (m : List ℕ) → w ≡ None → Answers f m m (Err OverLimit)
        sizes-over m e =
            over-limit f m
            (λ l. over-exact (shapes.unfolded (shapes_from t' 0 c.items)) (sym found ∙ e)
            (rw tree-items l.items_few) (rw tree-actions l.actions_few) (rw tree-depth l.shallow))

        pub sizes-within : (s : Sizes) → w ≡ Some s → Measured f c t' s.items
        sizes-within s e =
            let x = within-exact (shapes.unfolded (shapes_from t' 0 c.items)) s.items s.actions (sym found ∙ e) in
            record {
              foldable = asked.foldable;
              short = asked.short;
              values = filled-few f c t t' n (rw filled at tabled);
              rows = table-rows;
              room = table-room;
              count = x.0 ∙ tree-items;
              items_few = rw (← tree-items) x.2;
              actions_few = rw (← tree-actions) x.3;
              shallow = rw (← tree-depth) x.4;
            }

pub ruleset sizes = (items-most, table-over, table-room, sizes-over, sizes-within, rules)
