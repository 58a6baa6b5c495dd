-- One step of counting the actions and of marking the parts, in the code's own terms.
-- Assumes nothing.
use mathlib.Core.Path.{◌≡◌, sym}
use mathlib.Core.Bool.{Bool, true, false}
use mathlib.Core.List.{List, [], ◌∷◌, ◌++◌}
use Prim.Native.Nat.{ℕ, ◌+◌, ◌<◌, ◌≤◌}
use native.Mathlib.Numerals.{add-one}
use native.Mathlib.Omega.{arith}
use lib.ListN.{length, set, drop, drop_of_length-le}
use lib.Seq.{drop-cons}
use borrow.Author.Rules.{rules}
use Rattle.page.specs.declared.Item.{Item}
use Rattle.base.specs.Tests.{pick}
use Rattle.base.specs.Only.{only}
use Rattle.contents.specs.declared.Counts.{Counts}
use Rattle.contents.specs.Limits.{most_actions, last_part}
use Rattle.contents.specs.Contents.{counts_of}
use Rattle.items.specs.declared.Setting.{Setting}
use Rattle.items.specs.Items.{is_action, own_of}
use Rattle.items.specs.Ranged.{blank}
use Rattle.items.proofs.Walked.{Walked, walked_none, walked_item, walked-few}
use Rattle.items.proofs.WalkLaws.{own-action, own-group}
use Rattle.score.specs.Piece.{decode}
use Rattle.score.specs.File.{Accepted}
use Rattle.score.specs.Readers.{ItemIn, ItemRead}
use Rattle.score.proofs.Decoded.{items-decoded}
use Rattle.score.proofs.Accepted.{accepted-walked}
use Rattle.checking.specs.Tallies.{actions_in}
use Rattle.checking.specs.Inner.{marked}

-- ---- how many actions there are

pub actions-more : (i : Item) (is : List Item) → actions_in (i ∷ is) ≡ own_of i + actions_in is
unfolding actions_in only own_of pick
actions-more i is = go (is_action i) where
  go : (t : Bool) → length (pick t (i ∷ only (λ (j : Item). is_action j) is) (only (λ (j : Item). is_action j) is)) ≡ pick t 1 0 + length (only (λ (j : Item). is_action j) is)
  go true = omega arith
  go false = omega arith

actions-both : (is js : List Item) → actions_in (is ++ js) ≡ actions_in is + actions_in js
unfolding actions_in only
actions-both [] js = omega arith
actions-both (i ∷ is) js = omega (arith, actions-more i (is ++ js), actions-more i is, actions-both is js)

-- the walk of the check counts the same
walked-actions : {c : Counts} {h : Setting} {n m : ℕ} {is : List Item} → Walked c h n is m → n + actions_in is ≡ m
unfolding actions_in only
walked-actions walked_none = omega arith
walked-actions (walked_item {i = i} {b = b} {l = l} r e inner rest) =
    omega (arith, actions-more i (b ++ l), actions-both b l, walked-actions inner, walked-actions rest)

pub accepted-few : (f : List ℕ) → Accepted f → actions_in (decode f).items ≤ most_actions
accepted-few f a =
    let w = accepted-walked f a in
    omega (arith, walked-actions w.1, walked-few w.1 (omega arith))

pub own-one : (i : Item) → i.kind ≡ 0 → 1 ≡ own_of i
own-one i e = sym (own-action i e)

pub own-none : (i : Item) → (i.kind ≡ 0 → ⊥) → 0 ≡ own_of i
own-none i e = sym (own-group i e)

pub ruleset owning = (own-one, own-none, rules)

-- ---- the items one after the other

module _ (f : List ℕ) (accepted : Accepted f) (items : ℕ) (e : items ≡ (counts_of f).items) (p : ℕ) where
  pub item_in : p < items → ItemIn f p
  item_in l = record { accepted = accepted; below = rw e at l }

  left-none : items ≤ p → drop p (decode f).items ≡ []
  left-none l = drop_of_length-le (decode f).items {i = p} (omega (arith, items-decoded f))

  left-more : (i : Item) → p < items → ItemRead f p i → drop p (decode f).items ≡ i ∷ drop (p + 1) (decode f).items
  left-more i l r = rw (add-one, r.read) (drop-cons (decode f).items p blank (omega (arith, items-decoded f)))

  pub count-step : (i : Item) (n r : ℕ) → p < items → ItemRead f p i → r ≡ own_of i
      → n + actions_in (drop p (decode f).items) ≡ actions_in (decode f).items
      → n + r + actions_in (drop (p + 1) (decode f).items) ≡ actions_in (decode f).items
  count-step i n r l h o q = omega (arith, q, rw (left-more i l h) at q, actions-more i (drop (p + 1) (decode f).items))

  pub count-all : (n : ℕ) → items ≤ p → n + actions_in (drop p (decode f).items) ≡ actions_in (decode f).items → n ≡ actions_in (decode f).items
  unfolding actions_in only
  count-all n l q = let z : n + actions_in [] ≡ actions_in (decode f).items = rw (left-none l) at q in omega arith

  pub count-few : (n : ℕ) → items ≤ p → n + actions_in (drop p (decode f).items) ≡ actions_in (decode f).items → n ≤ most_actions
  count-few n l q = omega (arith, count-all n l q, accepted-few f accepted)

  pub mark-step : (i : Item) (m m' w : List ℕ) → p < items → ItemRead f p i → m' ≡ set m i.part 1
      → marked m (drop p (decode f).items) ≡ w → marked m' (drop (p + 1) (decode f).items) ≡ w
  unfolding marked
  mark-step i m m' w l h s q = rw s (rw (left-more i l h) at q)

  pub mark-all : (m w : List ℕ) → items ≤ p → marked m (drop p (decode f).items) ≡ w → m ≡ w
  unfolding marked
  mark-all m w l q = rw (left-none l) at q

pub count_none : (is : List Item) → 0 + actions_in (drop 0 is) ≡ actions_in is
count_none is = omega arith

pub item-part : (f : List ℕ) (p : ℕ) (i : Item) → ItemRead f p i → i.part ≤ last_part
item-part f p i r = r.ranged.part

pub ruleset counting = (item_in, count_none, count-step, count-all, count-few, rules)

pub ruleset marking = (item_in, item-part, mark-step, mark-all, rules)
