-- The item that the line of a 17 names is the one at fault, for every extended score that can't be unfolded; where it names none, the contents are, or points are left over.
-- A fault's place is where its item stands, and that place lies in no other item. Assumes nothing.
use mathlib.Core.Path.{◌≡◌, refl}
use mathlib.Core.Bool.{Bool, true, false}
use mathlib.Core.List.{List, [], ◌∷◌}
use Prim.Native.Nat.{ℕ, zero, suc, ◌+◌, ◌*◌, ◌<◌, ◌≤◌}
use native.Mathlib.Omega.{arith}
use lib.Dec.{eqb}
use lib.ListN.{length}
use borrow.Author.Tests.{leb-true}
use Rattle.base.specs.Tests.{every}
use Rattle.base.specs.Checks.{Check, fine, refused, need, first_fault}
use Rattle.base.proofs.TestLaws.{every-head}
use Rattle.values.specs.Curves.{Point}
use Rattle.extended.specs.Layout.{extended_contents, folded_size, extent_of, items_start, points_start, contents_right}
use Rattle.extended.specs.Points.{points_from, points_after}
use Rattle.extended.specs.Right.{own_right, item_of, ends_within, folds_right, extended_right}
use Rattle.contents.specs.declared.entries.Entry.TheVariants.{Item}
use Rattle.refusals.specs.Unfolds.{folded_entry}
use Rattle.refusals.proofs.UnfoldLaws.{item-named}

-- What is told of which place.
pub data FoldedNamed (f : List ℕ) : (place : ℕ) → Type 0 where
  whole : FoldedNamed f 0
  -- With the points that the items before it leave, the item can't be unfolded; its first byte names it.
  item : (k : ℕ) (ps : List Point) → k < (extent_of f).items → every (own_right (item_of f k) ps ∷ ends_within f k k ∷ []) ≡ false
      → folded_entry f (items_start (extent_of f) + folded_size * k) ≡ Item k → FoldedNamed f (items_start (extent_of f) + folded_size * k)

-- ---- the first of two checks, and the second

second-fault : (v : Check ℕ) (p : ℕ) → first_fault (v ∷ []) ≡ refused p → v ≡ refused p
unfolding first_fault
second-fault fine p e = let z : ◌≡◌ {A = ℕ} 0 1 = cc in absurd (omega arith)
second-fault (refused x) p e = e

passed_on : (x p : ℕ) (v : Check ℕ) → first_fault (need true x ∷ v ∷ []) ≡ refused p → v ≡ refused p
unfolding first_fault need
passed_on x p v e = second-fault v p e

stopped-at : (x p : ℕ) (l : List (Check ℕ)) → first_fault (need false x ∷ l) ≡ refused p → x ≡ p
unfolding first_fault need
stopped-at x p l e = cc

-- ---- the items, and the whole

left-named : (f : List ℕ) (t : Bool) (p : ℕ) → need t 0 ≡ refused p → FoldedNamed f p
unfolding need
left-named f true p e = let z : ◌≡◌ {A = ℕ} 0 1 = cc in absurd (omega arith)
left-named f false p e = let q : 0 ≡ p = cc in rw (← q) whole

module _ (f : List ℕ) (long : extended_contents ≤ length f) where
  folds-named : (count k : ℕ) (ps : List Point) (p : ℕ) → k + count ≡ (extent_of f).items → folds_right f k ps count ≡ refused p → FoldedNamed f p
  unfolding folds_right
  folds-named zero k ps p n e = left-named f (eqb (length ps) 0) p e
  folds-named (suc count) k ps p n e =
      go (every (own_right (item_of f k) ps ∷ ends_within f k k ∷ [])) refl (folds-named count (k + 1) (points_after (item_of f k) ps) p (omega arith)) e where
        go : (t : Bool) → every (own_right (item_of f k) ps ∷ ends_within f k k ∷ []) ≡ t
            → (folds_right f (k + 1) (points_after (item_of f k) ps) count ≡ refused p → FoldedNamed f p)
            → first_fault (need t (items_start (extent_of f) + folded_size * k) ∷ folds_right f (k + 1) (points_after (item_of f k) ps) count ∷ []) ≡ refused p → FoldedNamed f p
        go true h r q = r (passed_on (items_start (extent_of f) + folded_size * k) p _ q)
        go false h r q =
            let s : items_start (extent_of f) + folded_size * k ≡ p = stopped-at _ p _ q in
            rw (← s) (item k ps (omega arith) h (item-named f k long))

long-enough : (f : List ℕ) → contents_right f ≡ true → extended_contents ≤ length f
unfolding contents_right
long-enough f h = leb-true extended_contents (length f) (every-head _ _ h)

pub folded-named : (f : List ℕ) (p : ℕ) → extended_right f ≡ refused p → FoldedNamed f p
unfolding extended_right
folded-named f p e = go (contents_right f) refl e where
  go : (t : Bool) → contents_right f ≡ t
      → first_fault (need t 0 ∷ folds_right f 0 (points_from f (points_start (extent_of f)) (extent_of f).points) (extent_of f).items ∷ []) ≡ refused p → FoldedNamed f p
  go true h q = folds-named f (long-enough f h) (extent_of f).items 0 _ p (omega arith) (passed_on 0 p _ q)
  go false h q = let s : 0 ≡ p = stopped-at 0 p _ q in rw (← s) whole
