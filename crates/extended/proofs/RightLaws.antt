-- What an extended score that can be unfolded says of its contents and of each item's end.
-- By going from item to item. Assumes nothing.
use mathlib.Core.Path.{◌≡◌, refl}
use mathlib.Core.Bool.{Bool, true, false}
use mathlib.Core.List.{List, []}
use Prim.Native.Nat.{ℕ, zero, suc, ◌+◌, ◌*◌, ◌<◌, ◌≤◌}
use native.Mathlib.Omega.{arith}
use lib.Dec.{eqb}
use lib.ListN.{length}
use borrow.Author.Tests.{leb-true, eqb-true, eqb-false}
use Rattle.base.specs.Checks.{fine, need}
use Rattle.base.proofs.TestLaws.{every-head, every_rest}
use Rattle.base.proofs.CheckLaws.{first_head, first_rest, first_holds}
use Rattle.values.specs.Curves.{Point}
use Rattle.extended.specs.Layout.{extended_contents, folded_size, extent_of, items_start, points_start, whole_size, contents_right}
use Rattle.extended.specs.Points.{points_from, points_after}
use Rattle.extended.specs.Right.{own_right, item_of, ends_within, folds_right, extended_right}

module _ (f : List ℕ) where
  -- ---- right contents

  pub contents-long : contents_right f ≡ true → extended_contents ≤ length f
  unfolding contents_right
  contents-long e = leb-true _ _ (every-head _ _ e)

  pub contents-whole : contents_right f ≡ true → length f ≡ whole_size (extent_of f)
  unfolding contents_right
  contents-whole e =
      let e₁ = every_rest _ _ e in
      let e₂ = every_rest _ _ e₁ in
      let e₃ = every_rest _ _ e₂ in
      let e₄ = every_rest _ _ e₃ in
      let e₅ = every_rest _ _ e₄ in
      eqb-true _ _ (every-head _ _ (every_rest _ _ e₅))

  -- ---- the items' ends

  this-or-later : (k j : ℕ) → ends_within f k k ≡ true → (k + 1 ≤ j → ends_within f j j ≡ true) → k ≤ j → ends_within f j j ≡ true
  this-or-later k j own rest l = go (eqb k j) refl
    where
      go : (b : Bool) → eqb k j ≡ b → ends_within f j j ≡ true
      go true x = rw (eqb-true k j x) at own
      go false x = let n = eqb-false k j x in rest (omega arith)

  -- Where nothing from item k on is wrong, each item ends within all that holds it.
  folds-nest : (k : ℕ) (ps : List Point) (count j : ℕ) → folds_right f k ps count ≡ fine → k ≤ j → j < k + count → ends_within f j j ≡ true
  unfolding folds_right
  folds-nest k ps zero j e l h = absurd (omega arith)
  folds-nest k ps (suc count) j e l h =
      this-or-later k j
      (every-head _ _ (every_rest (own_right (item_of f k) ps) _ (first_holds _ (items_start (extent_of f) + folded_size * k) _ e)))
      (λ q. folds-nest (k + 1) (points_after (item_of f k) ps) count j (first_head _ [] (first_rest _ _ e)) q (omega arith))
      l

  -- ---- from the answer

  module _ (right : extended_right f ≡ fine) where
    pub right-contents : contents_right f ≡ true
    unfolding extended_right
    right-contents = first_holds _ _ _ right

    -- Its tables are the whole file.
    pub right-whole : length f ≡ whole_size (extent_of f)
    right-whole = contents-whole right-contents

    -- "a group or loop that ends past what holds it": no item of a score that can be unfolded does.
    pub right-nests : (k : ℕ) → k < (extent_of f).items → ends_within f k k ≡ true
    unfolding extended_right
    right-nests k l =
        let c = extent_of f in
        folds-nest 0 (points_from f (points_start c) c.points) c.items k (first_head _ [] (first_rest (need (contents_right f) 0) _ right)) (omega arith) (omega arith)
