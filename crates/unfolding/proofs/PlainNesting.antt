-- The items of a lawful piece, written as extended ones: each ends within the table and within all that hold it, and each can be unfolded.
-- Assumes nothing.
use mathlib.Core.Path.{◌≡◌, refl, ap, ◌∙◌}
use mathlib.Core.Bool.{Bool, true, false}
use mathlib.Core.List.{List, [], ◌∷◌, ◌++◌}
use Prim.Native.Nat.{ℕ, zero, suc, ◌+◌, ◌<◌, ◌≤◌}
use native.Mathlib.Omega.{arith}
use lib.Dec.{ltb, eqb}
use lib.ListN.{length, get_or, length-append, get_or-append}
use lib.Seq.{get_or-append-add}
use borrow.Author.Tests.{le-leb, ltb-true, ltb-false, eqb-true, eqb-false, ne_eqb}
use Rattle.page.specs.declared.Item.{Item}
use Rattle.base.specs.Tests.{pick, every}
use Rattle.base.specs.Checks.{fine, need, first_fault}
use Rattle.contents.specs.declared.Counts.{Counts}
use Rattle.items.specs.declared.Setting.{Setting}
use Rattle.items.specs.Items.{within_of}
use Rattle.items.specs.Ranged.{blank}
use Rattle.items.proofs.Walked.{Walked, walked_none, walked_item}
use Rattle.values.specs.Curves.{Point}
use Rattle.extended.specs.declared.Folded.{Folded}
use Rattle.extended.specs.Layout.{extent_of}
use Rattle.extended.specs.Folds.{held_by}
use Rattle.extended.specs.Points.{points_after}
use Rattle.extended.specs.Right.{plain_right, own_right, item_of, end_of, ends_within, folds_right}
use Rattle.extended.proofs.NestingLaws.{ends-within}
use Rattle.unfolding.proofs.Nesting.{Ends, end_is}
use Rattle.unfolding.specs.Plain.{plain_item}

-- ---- an item that holds w others, those within it, and those after them

module _ (f : List ℕ) (k w stop : ℕ) (own : end_of f k ≡ k + (1 + w)) (fits : k + 1 + w ≤ stop) (body : Ends f (k + 1) (k + 1 + w)) (rest : Ends f (k + 1 + w) stop) where
  end-from : (j : ℕ) → k ≤ j → j < stop → end_of f j ≤ stop
  end-from j p q = go (eqb j k) (ltb j (k + 1 + w)) refl refl
    where
      go : (a b : Bool) → eqb j k ≡ a → ltb j (k + 1 + w) ≡ b → end_of f j ≤ stop
      go true b x y = let s : j ≡ k = eqb-true j k x in rw s (omega arith)
      go false true x y = let n = eqb-false j k x in let l = ltb-true j (k + 1 + w) y in let h = body.ends j (omega arith) l in omega arith
      go false false x y = rest.ends j (ltb-false j (k + 1 + w) y) q

  held-from : (i j : ℕ) → k ≤ i → i < j → j < stop → j < end_of f i → end_of f j ≤ end_of f i
  held-from i j p q r s = go (eqb i k) (ltb i (k + 1 + w)) refl refl
    where
      go : (a b : Bool) → eqb i k ≡ a → ltb i (k + 1 + w) ≡ b → end_of f j ≤ end_of f i
      go true b x y =
          let e : i ≡ k = eqb-true i k x in
          let g : end_of f i ≡ end_of f k = ap (end_of f) e in
          let h = body.ends j (omega arith) (omega arith) in
          omega arith
      go false true x y =
          let n = eqb-false i k x in
          let l = ltb-true i (k + 1 + w) y in
          let h = body.ends i (omega arith) l in
          body.held i j (omega arith) q (omega arith) s
      go false false x y = rest.held i j (ltb-false i (k + 1 + w) y) q r s

  ends_join : Ends f k stop
  ends_join = record { ends = end-from; held = held-from }

-- ---- a lawful table, from its item k on

-- From item k on the file has these items, written as extended ones.
abbrev pub At : List ℕ → (k : ℕ) → List Item → Type 0
At f k is = (j : ℕ) → j < length is → item_of f (k + j) ≡ plain_item (get_or is j blank)

pub plain-holds : (i : Item) → i.kind ≤ 1 → held_by (plain_item i) ≡ within_of i
unfolding held_by within_of plain_item pick
plain-holds i l = go (eqb i.kind 0) refl
  where
    go : (b : Bool) → eqb i.kind 0 ≡ b → held_by (plain_item i) ≡ within_of i
    go true e = let z : i.kind ≡ 0 = eqb-true i.kind 0 e in rw z
    go false e = let n = eqb-false i.kind 0 e in let z : i.kind ≡ 1 = omega arith in rw z

module _ (f : List ℕ) (k : ℕ) (i : Item) (b l : List Item) (at : At f k (i ∷ (b ++ l))) where
  at_first : item_of f k ≡ plain_item i
  at_first = let z : k + 0 ≡ k = omega arith in rw z at (at 0 (omega arith))

  at_body : At f (k + 1) b
  at_body j q =
      let s : k + suc j ≡ k + 1 + j = omega arith in
      let h : item_of f (k + 1 + j) ≡ plain_item (get_or (b ++ l) j blank) = rw s at (at (suc j) (omega (arith, length-append b l))) in
      h ∙ ap plain_item (get_or-append b l blank j q)

  at_rest : At f (k + 1 + length b) l
  at_rest j q =
      let s : k + suc (length b + j) ≡ k + 1 + length b + j = omega arith in
      let h : item_of f (k + 1 + length b + j) ≡ plain_item (get_or (b ++ l) (length b + j) blank) = rw s at (at (suc (length b + j)) (omega (arith, length-append b l))) in
      h ∙ ap plain_item (get_or-append-add b l j blank)

pub lawful-ends : (f : List ℕ) {c : Counts} (k : ℕ) {h : Setting} {n m : ℕ} {is : List Item} → Walked c h n is m → At f k is → Ends f k (k + length is)
lawful-ends f k walked_none at = record { ends = λ j p q. absurd (omega arith); held = λ i j p q r s. absurd (omega arith) }
lawful-ends f k (walked_item {i = i} {b = b} {l = l} r e inner rest) at =
    let w = length b in
    let own : end_of f k ≡ k + (1 + w) = end_is f k ∙ ap (λ (y : Folded). k + (1 + held_by y)) (at_first f k i b l at) ∙ rw (plain-holds i r.kind, e) in
    let stop : k + suc (length (b ++ l)) ≡ k + 1 + w + length l = omega (arith, length-append b l) in
    let body : Ends f (k + 1) (k + 1 + w) = lawful-ends f (k + 1) inner (at_body f k i b l at) in
    let after : Ends f (k + 1 + w) (k + 1 + w + length l) = lawful-ends f (k + 1 + w) rest (at_rest f k i b l at) in
    rw stop (ends_join f k w (k + 1 + w + length l) own (omega arith) body after)

-- ---- so it can be unfolded

module _ (f : List ℕ) (ends : Ends f 0 (extent_of f).items) where
  pub all-within : (k : ℕ) → k < (extent_of f).items → ends_within f k k ≡ true
  all-within k l = ends-within f k k (ends.ends k (omega arith) l) (λ i p q. ends.held i k (omega arith) p l q)

module _ (i : Item) (k : i.kind ≤ 1) where
  plain-own : (ps : List Point) → own_right (plain_item i) ps ≡ true
  unfolding own_right plain_right plain_item every pick
  plain-own ps =
      rw (
        ne_eqb i.kind 2 (λ e. omega arith),
        ne_eqb i.kind 3 (λ e. omega arith),
        le-leb i.kind 1 k,
      )

  plain-points : (ps : List Point) → points_after (plain_item i) ps ≡ ps
  unfolding points_after plain_item pick
  plain-points ps = rw (ne_eqb i.kind 3 (λ e. omega arith))

module _ (f : List ℕ) (is : List Item) (table : At f 0 is) (kinds : (j : ℕ) → j < length is → (get_or is j blank).kind ≤ 1)
    (within : (k : ℕ) → k < length is → ends_within f k k ≡ true) where
  pub table_at : (k : ℕ) → k < length is → item_of f k ≡ plain_item (get_or is k blank)
  table_at k l = let z : 0 + k ≡ k = omega arith in rw z at (table k l)

  pub folds-fine : (k count : ℕ) → k + count ≡ length is → folds_right f k [] count ≡ fine
  unfolding folds_right first_fault need every
  folds-fine k zero e = refl
  folds-fine k (suc count) e =
      let l : k < length is = omega arith in
      let i = get_or is k blank in
      rw (table_at k l, plain-own i (kinds k l) [], within k l, plain-points i (kinds k l) [], folds-fine (k + 1) count (omega arith))
