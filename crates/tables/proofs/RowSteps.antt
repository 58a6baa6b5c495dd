-- The rows laid one behind the other are the table.
-- Assumes nothing.
use mathlib.Core.Path.{◌≡◌, refl, sym, ap, ◌∙◌}
use mathlib.Core.List.{List, [], ◌∷◌, ◌++◌, append-nil}
use Prim.Native.Nat.{ℕ, ◌+◌, ◌*◌, ◌<◌, ◌≤◌}
use native.Mathlib.Omega.{arith}
use lib.ListN.{length, take, drop, set, take-append-drop}
use lib.Seq.{take-add, drop-drop, take-append_seam, drop-append_seam}
use mir.Syntax.{w64}
use mir.Val.{Fits}
use borrow.Author.Rules.{rules}
use Rattle.std.specs.Prelude.{Some, None}
use Rattle.ascii.specs.Laying.{Laid}
use Rattle.ascii.proofs.LayLaws.{laid-join, laid-byte, laid-nothing}
use Rattle.contents.specs.Limits.{most_items, most_actions}
use Rattle.extended.specs.declared.Extent.{Extent}
use Rattle.extended.specs.declared.Folded.{Folded}
use Rattle.extended.specs.Layout.{folded_size, items_start}
use Rattle.extended.specs.Folds.{folded_at}
use Rattle.extended.specs.Points.{points_after, values_of, all_values}
use Rattle.extended.specs.Inner.{word_range, SmallFolded, Foldable}
use Rattle.shapes.specs.Limits.{row_words}
use Rattle.tables.specs.Tables.{times_of, row_of, table_of, values_in, table_in, Tabled}
use Rattle.tables.specs.Inner.{most_count, points_of, times_as, items_left, points_left, RowIn}
use Rattle.tables.proofs.WalkSteps.{Walk, walk_start, walk_none, walk-item, walk-reached, walk-next, walk-fits, walk_more, walk-count, left_after, items-all, points-all}

-- ---- one row

pub word-laid : (o : List ℕ) (a n w : ℕ) → w ≡ n → a + 1 ≤ length o → Laid o a (n ∷ []) (set o a w) (a + 1)
word-laid o a n w e p = rw e (laid-byte o a n p)

pub row_laid : (i : Folded) (times first : ℕ) (o m₁ m₂ m₃ m₄ : List ℕ) (a b₁ b₂ b₃ b₄ : ℕ) → Laid o a (i.item.kind ∷ []) m₁ b₁
    → Laid m₁ b₁ (i.item.last ∷ []) m₂ b₂ → Laid m₂ b₂ (times ∷ []) m₃ b₃ → Laid m₃ b₃ (first ∷ []) m₄ b₄
    → Laid o a (row_of i times first) m₄ b₄
unfolding row_of
row_laid i times first o m₁ m₂ m₃ m₄ a b₁ b₂ b₃ b₄ p q r s =
    laid-join o m₁ m₄ _ _ a b₁ b₄ p (laid-join m₁ m₂ m₄ _ _ b₁ b₂ b₄ q (laid-join m₂ m₃ m₄ _ _ b₂ b₃ b₄ r s))

pub ruleset row = (word-laid, row_laid, rules)

-- the row that is owed next is one more that is laid
next-laid : (o ws row rest m n : List ℕ) (b r : ℕ) → Laid o 0 (take b ws) m b → drop b ws ≡ row ++ rest → Laid m b row n r → Laid o 0 (take r ws) n r
next-laid o ws row rest m n b r p e q =
    let s : r ≡ b + length row = q.stop in
    let t : take r ws ≡ take b ws ++ row = rw (s, take-add b (length row) ws, e, take-append_seam row rest) in
    rw t (laid-join o m n (take b ws) row 0 b r p q)

all_laid : (o ws m : List ℕ) (b r : ℕ) → b ≡ r → drop b ws ≡ [] → Laid o 0 (take b ws) m b → Laid o 0 ws m r
all_laid o ws m b r s e p =
    let t : take b ws ≡ ws = sym (append-nil (take b ws)) ∙ ap (λ (l : List ℕ). take b ws ++ l) (sym e) ∙ take-append-drop b ws in
    rw (t, s) at p

next-owed : (ws row rest m n : List ℕ) (b r : ℕ) → drop b ws ≡ row ++ rest → Laid m b row n r → drop r ws ≡ rest
next-owed ws row rest m n b r e q =
    let s : r ≡ b + length row = q.stop in
    rw (s, ← (drop-drop (length row) b ws), e, drop-append_seam row rest)

-- ---- the table

-- The rows of the first k items are laid, and so many values stand before the others.
pub record Tabling (f : List ℕ) (c : Extent) (entry m : List ℕ) (k used first : ℕ) : Type 0 where
  pub walk : Walk f c k used
  pub count : first + length (all_values (items_left f c k) (points_left f c used)) ≡ length (values_in f c)
  pub few : first ≤ most_actions
  pub laid : Laid entry 0 (take (row_words * k) (table_in f c)) m (row_words * k)
  pub owed : drop (row_words * k) (table_in f c) ≡ table_of (items_left f c k) (points_left f c used) first

pub tabling-start : (f : List ℕ) (c : Extent) (o : List ℕ) → Foldable f c → Tabling f c o o 0 0 0
tabling-start f c o a =
    record {
      walk = walk_start f c a;
      count = rw (items-all f c, points-all f c) (omega arith);
      few = omega arith;
      laid = laid-nothing o 0 (omega arith);
      owed = rw (items-all f c, points-all f c);
    }

module _ (f : List ℕ) (c : Extent) (o m : List ℕ) (k used first : ℕ) (known : Tabling f c o m k used first) where
  pub tabling-size : length m ≡ length o
  tabling-size = known.laid.size

  pub tabling-fits : (n : ℕ) → n ≤ most_count → Fits w64 (first + n)
  tabling-fits n p = let q = known.few in record { fits = omega arith }

  pub tabling-room : (i : Folded) (times : ℕ) → k < c.items → c.items ≤ most_items → row_words * most_items ≤ length o → SmallFolded i → times < word_range
      → RowIn (length m) (row_words * k) i times first
  tabling-room i times l p q small t =
      let z = known.laid.size in
      let w = known.few in
      record { room = omega arith; small = small; short = t; before = omega arith }

  no-values-left : c.items ≤ k → length (all_values (items_left f c k) (points_left f c used)) ≡ 0
  unfolding all_values
  no-values-left p = rw (walk_none f c k used known.walk p)

  nothing-owed : c.items ≤ k → table_of (items_left f c k) (points_left f c used) first ≡ []
  unfolding table_of
  nothing-owed p = rw (walk_none f c k used known.walk p)

  pub tabling-end : c.items ≤ k → Tabled f c o m (Some first)
  tabling-end p =
      let s : first + length (all_values (items_left f c k) (points_left f c used)) ≡ length (values_in f c) = known.count in
      let z = no-values-left p in
      let l = known.walk.items in
      let e : first ≡ length (values_in f c) = omega arith in
      let q : row_words * k ≡ row_words * c.items = omega arith in
      let w = known.few in
      record {
        filled = λ h. rw e;
        laid = λ h. all_laid o (table_in f c) m (row_words * k) (row_words * c.items) q (known.owed ∙ nothing-owed p) known.laid;
        over = λ (h : most_actions < length (values_in f c)). absurd (omega arith);
      }

  module _ (l : k < c.items) (i : Folded) (e : i ≡ folded_at f (items_start c + folded_size * k)) (small : SmallFolded i) where
    module _ (n : ℕ) (p : n ≡ length (values_of i (points_left f c used))) where
      -- what is left can only add to the values
      pub tabling-over : most_actions < first + n → Tabled f c o m None
      tabling-over q =
          let s : first + length (all_values (items_left f c k) (points_left f c used)) ≡ length (values_in f c) = known.count in
          let a = walk-count f c k used known.walk l i e small (points_of i) refl in
          let b : most_actions < length (values_in f c) = omega arith in
          record {
            filled = λ (h : length (values_in f c) ≤ most_actions). absurd (omega arith);
            laid = λ (h : length (values_in f c) ≤ most_actions). absurd (omega arith);
            over = λ h. refl;
          }

      module _ (times : ℕ) (t : times ≡ times_as i n) where
        times-same : times ≡ times_of i (points_left f c used)
        unfolding times_of times_as
        times-same = rw (← p) t

        owed-row : table_of (i ∷ items_left f c (k + 1)) (points_left f c used) first
            ≡ row_of i times first ++ table_of (items_left f c (k + 1)) (points_after i (points_left f c used)) (first + n)
        unfolding table_of
        owed-row = rw (times-same, p)

        owed_more : (u : ℕ) → u ≡ points_of i
            → table_of (items_left f c k) (points_left f c used) first ≡ row_of i times first ++ table_of (items_left f c (k + 1)) (points_left f c (used + u)) (first + n)
        owed_more u w =
            let x = walk-reached f c k used known.walk l i e small in
            rw (walk_more f c k used known.walk l i e, ← (left_after f c used i x u w)) owed-row

        row-end : (m' : List ℕ) (r : ℕ) → Laid m (row_words * k) (row_of i times first) m' r → r ≡ row_words * (k + 1)
        unfolding row_of
        row-end m' r laid = let s = laid.stop in omega arith

        pub tabling-next : (m' : List ℕ) (r u : ℕ) → first + n ≤ most_actions → Laid m (row_words * k) (row_of i times first) m' r → u ≡ points_of i → Tabling f c o m' (k + 1) (used + u) (first + n)
        tabling-next m' r u q laid w =
            let s : first + length (all_values (items_left f c k) (points_left f c used)) ≡ length (values_in f c) = known.count in
            let a = walk-count f c k used known.walk l i e small u w in
            let b = known.owed ∙ owed_more u w in
            let g = next-laid o (table_in f c) _ _ m m' (row_words * k) r known.laid b laid in
            let d = next-owed (table_in f c) _ _ m m' (row_words * k) r b laid in
            let h : r ≡ row_words * (k + 1) = row-end m' r laid in
            record {
              walk = walk-next f c k used known.walk l i e small u w;
              count = omega arith;
              few = q;
              laid = rw h at g;
              owed = rw h at d;
            }

pub ruleset tabling = (tabling-start, tabling-size, tabling-end, tabling-over, tabling-next, tabling-fits, tabling-room, walk-item, walk-reached, walk-fits, rules)
