-- "Page place means position in the item table": the actions of a page stand at rising places within the table, so each has a place of its own.
-- By induction on the bound of the reading, whatever the items are. Assumes nothing.
use mathlib.Core.Path.{◌≡◌, refl, ◌∙◌}
use Prim.Native.Nat.{ℕ, zero, suc, ◌+◌, ◌≤◌, ◌<◌}
use mathlib.Core.Bool.{Bool, true, false}
use mathlib.Core.List.{List, [], ◌∷◌, ◌++◌}
use native.Mathlib.Omega.{arith}
use native.Mathlib.Nat.{le_trans, le_refl}
use lib.Dec.{leb, eqb}
use lib.ListN.{length, take, drop, length-take, length-drop, drop_of_length-le}
use borrow.Author.Tests.{leb-true, leb-false}
use Rattle.page.specs.declared.Item.{Item}
use Rattle.base.specs.Tests.{pick}
use Rattle.rules.specs.Score.{end}
use Rattle.rules.specs.Rules.{Reading}
use Rattle.rules.specs.Page.{levels, sequence_of, goes_on, run_length, entries_of, entries, cues}
use Rattle.rules.specs.Written.{Written, actions_of, actions_on, actions_in, Placed, no_actions, placed}
use Rattle.rules.proofs.Sound.{each-action-once}

placed-wider : {a b c d : ℕ} {l : List Written} → c ≤ a → b ≤ d → Placed a b l → Placed c d l
placed-wider h g no_actions = no_actions
placed-wider h g (placed {p = p} x y r) = placed (le_trans h x) (le_trans y g) (placed-wider (le_refl (suc p)) g r)

placed-append : {a b c : ℕ} {l k : List Written} → a ≤ b → b ≤ c → Placed a b l → Placed b c k → Placed a c (l ++ k)
placed-append g h no_actions q = placed-wider g (le_refl _) q
placed-append g h (placed {p = p} x y r) q = placed x (le_trans y h) (placed-append y h r q)

-- ---- a sequence

pub sequence-empty : (n v p : ℕ) → sequence_of n v p [] ≡ end
unfolding sequence_of
sequence-empty zero v p = refl
sequence-empty (suc n) v p = refl

abbrev Stands : (q n v p : ℕ) → List Item → Type 0
Stands q n v p is = Placed p (p + length is) (actions_of q (sequence_of n v p is))

-- Of the items after a group's k, where there are fewer none is left.
rest-placed : (q n v p k : ℕ) (is : List Item) → ((v p : ℕ) (is : List Item) → Stands q n v p is) →
    Placed (p + 1 + length (take k is)) (p + suc (length is)) (actions_of q (sequence_of n v (p + 1 + k) (drop k is)))
unfolding actions_of
rest-placed q n v p k is ih = go (leb k (length is)) refl
  where
    go : (t : Bool) → leb k (length is) ≡ t → Placed (p + 1 + length (take k is)) (p + suc (length is)) (actions_of q (sequence_of n v (p + 1 + k) (drop k is)))
    go true e =
        let l : k ≤ length is = leb-true k (length is) e in
        placed-wider (omega (arith, length-take k is)) (omega (arith, length-drop k is)) (ih v (p + 1 + k) (drop k is))
    go false e =
        let l : length is ≤ k = omega (arith, leb-false k (length is) e) in
        rw (drop_of_length-le is l, sequence-empty n v (p + 1 + k)) no_actions

body-placed : (q n v p k : ℕ) (is : List Item) → ((v p : ℕ) (is : List Item) → Stands q n v p is) →
    Placed p (p + 1 + length (take k is)) (actions_of q (elim v [ zero ↦ end | suc u ↦ sequence_of n u (p + 1) (take k is) ]))
unfolding actions_of
body-placed q n zero p k is ih = no_actions
body-placed q n (suc u) p k is ih = placed-wider (omega arith) (le_refl _) (ih u (p + 1) (take k is))

pub sequence-placed : (q n v p : ℕ) (is : List Item) → Placed p (p + length is) (actions_of q (sequence_of n v p is))
unfolding sequence_of actions_of
sequence-placed q zero v p is = no_actions
sequence-placed q (suc n) v p [] = no_actions
sequence-placed q (suc n) v p (i ∷ is) = go (eqb i.kind 0) refl (sequence-placed q n)
  where
    go : (t : Bool) → eqb i.kind 0 ≡ t → ((v p : ℕ) (is : List Item) → Stands q n v p is) →
        Placed p (p + suc (length is)) (actions_of q (sequence_of (suc n) v p (i ∷ is)))
    go true e ih =
        let l : p < p + suc (length is) = omega arith in
        let a : suc p ≤ p + 1 = omega arith in
        let b : p + 1 + length is ≤ p + suc (length is) = omega arith in
        rw (e, sequence_of) (placed (le_refl p) l (placed-wider a b (ih v (p + 1) is)))
    go false e ih =
        rw (e, sequence_of)
        (placed-append (omega arith) (omega (arith, length-take i.last is)) (body-placed q n v p i.last is ih) (rest-placed q n v p i.last is ih))

-- ---- the page

run-length : (i p : ℕ) (is : List Item) → run_length i p is ≤ length is
unfolding run_length pick
run-length i p [] = omega arith
run-length i p (x ∷ is) = go (goes_on i p x) (run-length i p is)
  where
    go : (t : Bool) → run_length i p is ≤ length is → pick t (suc (run_length i p is)) 0 ≤ suc (length is)
    go true h = omega arith
    go false h = omega arith

entries-placed : (n p : ℕ) (is : List Item) → Placed p (p + length is) (actions_on (entries_of n p is))
unfolding entries_of actions_on
entries-placed zero p is = no_actions
entries-placed (suc n) p [] = no_actions
entries-placed (suc n) p (x ∷ is) =
    let k = run_length x.event x.part is in
    let f : k ≤ length is = run-length x.event x.part is in
    let t : length (take k is) ≡ k = length-take k is ∙ omega arith in
    let a : p ≤ p + suc (length (take k is)) = omega arith in
    let b : p + suc (length (take k is)) ≤ p + suc (length is) = omega arith in
    let c : p + suc (length (take k is)) ≤ p + 1 + k = omega arith in
    let d : p + 1 + k + length (drop k is) ≤ p + suc (length is) = omega (arith, length-drop k is) in
    placed-append a b (sequence-placed x.part (suc k) levels p (x ∷ take k is)) (placed-wider c d (entries-placed n (p + 1 + k) (drop k is)))

pub page-placed : (is : List Item) → Placed 0 (length is) (actions_on (entries is))
unfolding entries
page-placed is = placed-wider (omega arith) (omega arith) (entries-placed (length is) 0 is)

-- So do the cues, whatever is heard.
pub cues-placed : (R : Reading) (is : List Item) → Placed 0 (length is) (actions_in (cues R (entries is)))
cues-placed R is = rw (each-action-once R (entries is)) (page-placed is)
