-- What is known of every item of an extended score that can be unfolded, and what its check comes to where some items are known.
-- By going from item to item with the points left. Assumes nothing.
use mathlib.Core.Path.{◌≡◌, refl, sym, ◌∙◌, subst}
use mathlib.Core.Bool.{true, false}
use mathlib.Core.List.{List, [], ◌∷◌}
use Prim.Native.Nat.{ℕ, zero, suc, ◌+◌, ◌-◌, ◌*◌, ◌<◌}
use native.Mathlib.Omega.{arith}
use lib.ListN.{length}
use borrow.Author.Tests.{eqb-true, eq-eqb, ne_eqb}
use Rattle.base.specs.Tests.{every}
use Rattle.base.specs.Checks.{Check, fine, refused, need, first_fault}
use Rattle.base.proofs.TestLaws.{every-pass, every-last, every-head}
use Rattle.base.proofs.CheckLaws.{first-pass, first-stop, first_head, first_rest, first_holds, need-fine}
use Rattle.values.specs.Curves.{Point}
use Rattle.extended.specs.Layout.{extent_of, items_start, points_start, folded_size, contents_right}
use Rattle.extended.specs.Folds.{folded_from}
use Rattle.extended.specs.Points.{points_from}
use Rattle.extended.specs.Right.{own_right, item_of, ends_within, folds_right, extended_right}
use Rattle.extended.specs.Inner.{SmallExtent, Folds, all_folds, fold, Foldable}
use Rattle.extended.proofs.RightLaws.{contents-long, contents-whole, right-contents}
use Rattle.folding.specs.Inner.{points_left}

first-last : {X : Type 0} (v : Check X) → v ≡ first_fault (v ∷ [])
unfolding first_fault
first-last fine = refl
first-last (refused x) = refl

module _ (f : List ℕ) where
  -- ---- the check, where the first k items are right

  folds-one : (k g : ℕ) → own_right (item_of f k) (points_left f k) ≡ true → ends_within f k k ≡ true
      → folds_right f k (points_left f k) (suc g) ≡ folds_right f (suc k) (points_left f (suc k)) g
  unfolding folds_right points_left
  folds-one k g a b =
      let s : k + 1 ≡ suc k = omega arith in
      rw s (sym (first-pass _ _ _ _ (sym (every-pass _ true _ a (every-last _ true (sym b)))) (first-last _)))

  pub folds-skip : (k g : ℕ) → ((j : ℕ) → j < k → own_right (item_of f j) (points_left f j) ≡ true) → ((j : ℕ) → j < k → ends_within f j j ≡ true)
      → folds_right f 0 (points_left f 0) (k + g) ≡ folds_right f k (points_left f k) g
  folds-skip zero g own ends = let s : 0 + g ≡ g = omega arith in rw s
  folds-skip (suc k) g own ends =
      let s : suc k + g ≡ k + suc g = omega arith in
      rw s (folds-skip k (suc g) (λ j p. own j (omega arith)) (λ j p. ends j (omega arith)) ∙ folds-one k g (own k (omega arith)) (ends k (omega arith)))

  folds-stop : (k g : ℕ) (ps : List Point) → every (own_right (item_of f k) ps ∷ ends_within f k k ∷ []) ≡ false
      → folds_right f k ps (suc g) ≡ refused (items_start (extent_of f) + folded_size * k)
  unfolding folds_right
  folds-stop k g ps e = sym (first-stop _ _ _ e)

  folds-left : (k : ℕ) (ps : List Point) → (length ps ≡ 0 → ⊥) → folds_right f k ps 0 ≡ refused 0
  unfolding folds_right need
  folds-left k ps e = rw (ne_eqb (length ps) 0 e)

  folds-used : (k : ℕ) (ps : List Point) → length ps ≡ 0 → folds_right f k ps 0 ≡ fine
  unfolding folds_right need
  folds-used k ps e = rw (eq-eqb (length ps) 0 e)

  pub extended-bad : contents_right f ≡ false → extended_right f ≡ refused 0
  unfolding extended_right
  extended-bad e = sym (first-stop _ _ _ e)

  pub extended-folds : contents_right f ≡ true → extended_right f ≡ folds_right f 0 (points_left f 0) (extent_of f).items
  unfolding extended_right points_left
  extended-folds e = sym (first-pass _ _ _ _ e (first-last _))

  module _ (right : contents_right f ≡ true) (k : ℕ) (own : (j : ℕ) → j < k → own_right (item_of f j) (points_left f j) ≡ true) (ends : (j : ℕ) → j < k → ends_within f j j ≡ true) where
    pub extended-stop : k < (extent_of f).items → every (own_right (item_of f k) (points_left f k) ∷ ends_within f k k ∷ []) ≡ false
        → extended_right f ≡ refused (items_start (extent_of f) + folded_size * k)
    extended-stop l e =
        let n : (extent_of f).items ≡ k + suc ((extent_of f).items - (k + 1)) = omega arith in
        extended-folds right ∙ (subst (λ (x : ℕ). folds_right f 0 (points_left f 0) x ≡ folds_right f k (points_left f k) (suc ((extent_of f).items - (k + 1)))) (sym n) (folds-skip k _ own ends) ∙ folds-stop k _ _ e)

    all-passed : k ≡ (extent_of f).items → extended_right f ≡ folds_right f k (points_left f k) 0
    all-passed l =
        let n : k + 0 ≡ (extent_of f).items = omega arith in
        extended-folds right ∙ subst (λ (x : ℕ). folds_right f 0 (points_left f 0) x ≡ folds_right f k (points_left f k) 0) n (folds-skip k 0 own ends)

    pub extended-left : k ≡ (extent_of f).items → (length (points_left f k) ≡ 0 → ⊥) → extended_right f ≡ refused 0
    extended-left l e = all-passed l ∙ folds-left k _ e

    pub extended-used : k ≡ (extent_of f).items → length (points_left f k) ≡ 0 → extended_right f ≡ fine
    extended-used l e = all-passed l ∙ folds-used k _ e

  -- ---- from the answer to the items

  folds-rest : (k g : ℕ) → folds_right f k (points_left f k) (suc g) ≡ fine → folds_right f (suc k) (points_left f (suc k)) g ≡ fine
  unfolding folds_right points_left
  folds-rest k g e =
      let s : k + 1 ≡ suc k = omega arith in
      rw s at (first_head _ _ (first_rest _ _ e))

  folds-from : (k g : ℕ) → folds_right f 0 (points_left f 0) (k + g) ≡ fine → folds_right f k (points_left f k) g ≡ fine
  folds-from zero g e = let s : 0 + g ≡ g = omega arith in rw s at e
  folds-from (suc k) g e =
      let s : suc k + g ≡ k + suc g = omega arith in
      folds-rest k g (folds-from k (suc g) (rw s at e))

  folds-own : (k g : ℕ) (ps : List Point) → folds_right f k ps (suc g) ≡ fine → own_right (item_of f k) ps ≡ true
  unfolding folds_right
  folds-own k g ps e = every-head _ _ (first_holds _ _ _ e)

  folds-none : (k : ℕ) (ps : List Point) → folds_right f k ps 0 ≡ fine → length ps ≡ 0
  unfolding folds_right
  folds-none k ps e = eqb-true _ _ (need-fine _ _ e)

  -- the items from k on, each with the points that are left to it
  folds-all : (k g : ℕ) (ps : List Point) → folds_right f k ps g ≡ fine → Folds ps (folded_from f (items_start (extent_of f) + folded_size * k) g)
  unfolding folds_right folded_from item_of
  folds-all k zero ps e = all_folds
  folds-all k (suc g) ps e =
      let s : items_start (extent_of f) + folded_size * (k + 1) ≡ items_start (extent_of f) + folded_size * k + folded_size = omega arith in
      fold (every-head _ _ (first_holds _ _ _ e)) (rw s at (folds-all (k + 1) g _ (first_head _ _ (first_rest _ _ e))))

  module _ (right : extended_right f ≡ fine) where
    right-folds : folds_right f 0 (points_left f 0) (extent_of f).items ≡ fine
    right-folds = sym (extended-folds (right-contents f right)) ∙ right

    right-from : (k : ℕ) → k < (extent_of f).items → folds_right f k (points_left f k) (suc ((extent_of f).items - (k + 1))) ≡ fine
    right-from k l =
        let n : (extent_of f).items ≡ k + suc ((extent_of f).items - (k + 1)) = omega arith in
        folds-from k _ (subst (λ (x : ℕ). folds_right f 0 (points_left f 0) x ≡ fine) n right-folds)

    -- "a loop or curve not as above": each item is right by itself, with the points that those before it leave
    pub right-own : (k : ℕ) → k < (extent_of f).items → own_right (item_of f k) (points_left f k) ≡ true
    right-own k l = folds-own k _ _ (right-from k l)

    -- "all are used"
    pub right-used : length (points_left f (extent_of f).items) ≡ 0
    right-used =
        let n : (extent_of f).items ≡ (extent_of f).items + 0 = omega arith in
        folds-none _ _ (folds-from (extent_of f).items 0 (subst (λ (x : ℕ). folds_right f 0 (points_left f 0) x ≡ fine) n right-folds))

right-items : (f : List ℕ) → extended_right f ≡ fine → Folds (points_from f (points_start (extent_of f)) (extent_of f).points) (folded_from f (items_start (extent_of f)) (extent_of f).items)
unfolding points_left
right-items f right =
    let s : items_start (extent_of f) + folded_size * 0 ≡ items_start (extent_of f) = omega arith in
    subst
    (λ (x : ℕ). Folds (points_from f (points_start (extent_of f)) (extent_of f).points) (folded_from f x (extent_of f).items))
    s
    (folds-all f 0 (extent_of f).items _ (right-folds f right))

pub right-foldable : (f : List ℕ) → extended_right f ≡ fine → SmallExtent (extent_of f) → Foldable f (extent_of f)
right-foldable f right small =
    let contents = right-contents f right in
    record { counts = refl; small = small; contents = contents-long f contents; whole = contents-whole f contents; folds = right-items f right }
