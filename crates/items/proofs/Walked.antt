-- One view of an item table that the check lets in: each item is right where it stands, then come the items within it, then those after it.
-- What holds of every item, of the order, the nesting and the number of actions follows by recursion over it. Assumes nothing.
use mathlib.Core.Path.{◌≡◌, refl}
use mathlib.Core.Bool.{Bool, true, false}
use mathlib.Core.List.{List, [], ◌∷◌, ◌++◌}
use Prim.Native.Nat.{ℕ, zero, suc, ◌+◌, ◌<◌, ◌≤◌}
use native.Mathlib.Omega.{arith}
use lib.Dec.{leb, eqb}
use lib.ListN.{length, take, drop, length-drop, take-append-drop}
use lib.Seq.{length-take-le}
use borrow.Author.Tests.{leb-true, ltb-true, eqb-true, eq-eqb, ne_eqb}
use Rattle.std.specs.Prelude.{Result, Ok, Err}
use Rattle.page.specs.declared.Item.{Item}
use Rattle.base.specs.Tests.{pick, every, between}
use Rattle.base.specs.Checks.{Check, fine, refused}
use Rattle.base.proofs.TestLaws.{every-head, every_rest, between-low, between-high}
use Rattle.base.proofs.CheckLaws.{first_rest, first_holds}
use Rattle.contents.specs.declared.Fault.{Fault}
use Rattle.contents.specs.declared.ItemRule.{ItemRule}
use Rattle.contents.specs.declared.Counts.{Counts}
use Rattle.contents.specs.Limits.{longest, most_actions, last_part, deepest}
use Rattle.contents.specs.Contents.{items_at}
use Rattle.items.specs.declared.Setting.{Setting}
use Rattle.items.specs.Items.{is_action, is_top, synchrony_right, error_right, part_right, in_order, event_right, nesting_right, number_right, actions_right, item_right, within_of, own_of, next, inside, onward, on_from, walk_of, walked, outset, walk_fault, items_right}

-- ---- one item

-- What the rules of specs/Items say of an item that is right where it stands.
pub record Right (i : Item) (c : Counts) (h : Setting) (left n : ℕ) : Type 0 where
  pub kind : i.kind ≤ 1
  pub synchrony : i.synchrony ≤ 1
  pub error : i.error ≤ 3
  pub no_words : is_action i ≡ true → (i.synchrony ≡ 0) × (i.error ≡ 0)
  pub part : i.part ≤ last_part
  pub inner_part : 1 < h.depth → i.part ≡ h.part
  pub delay : i.delay.0 ≤ longest
  pub event : i.event ≤ c.events
  pub top_event : h.depth ≡ 1 → 1 ≤ i.event
  pub order : h.depth ≡ 1 → in_order h i ≡ true
  pub inner_event : 1 < h.depth → i.event ≡ 0
  pub depth : h.depth ≤ deepest
  pub end : is_action i ≡ false → i.last ≤ left
  pub number : is_action i ≡ true → i.last < c.messages
  pub actions : is_action i ≡ true → n < most_actions

picked : (b x y : Bool) → pick b x y ≡ true → b ≡ true → x ≡ true
unfolding pick
picked b x y p e = rw (e, pick) at p

passed_over : (b x y : Bool) → pick b x y ≡ true → b ≡ false → y ≡ true
unfolding pick
passed_over b x y p e = rw (e, pick) at p

word_small : (b : Bool) (w most : ℕ) → pick b (eqb w 0) (leb w most) ≡ true → w ≤ most
unfolding pick
word_small true w most p = let z = eqb-true w 0 p in omega arith
word_small false w most p = leb-true w most p

event-small : (b o : Bool) (k e : ℕ) → pick b (every (between 1 k e ∷ o ∷ [])) (eqb e 0) ≡ true → e ≤ k
unfolding pick
event-small true o k e p = between-high 1 k e (every-head _ _ p)
event-small false o k e p = let z = eqb-true e 0 p in omega arith

pub right-item : (i : Item) (c : Counts) (h : Setting) (left n : ℕ) → item_right i c h left n ≡ fine → Right i c h left n
unfolding item_right synchrony_right error_right part_right event_right nesting_right number_right actions_right
right-item i c h left n right =
    let right₁ = first_rest _ _ right in
    let right₂ = first_rest _ _ right₁ in
    let right₃ = first_rest _ _ right₂ in
    let right₄ = first_rest _ _ right₃ in
    let right₅ = first_rest _ _ right₄ in
    let right₆ = first_rest _ _ right₅ in
    let right₇ = first_rest _ _ right₆ in
    let right₈ = first_rest _ _ right₇ in
    let synchrony = first_holds _ _ _ right₁ in
    let error = first_holds _ _ _ right₂ in
    let parts = first_holds _ _ _ right₃ in
    let events = first_holds _ _ _ right₅ in
    let nesting = first_holds _ _ _ right₆ in
    let topmost : h.depth ≡ 1 → every (between 1 c.events i.event ∷ in_order h i ∷ []) ≡ true = λ d. picked _ _ _ events (eq-eqb h.depth 1 d) in
    let deeper : 1 < h.depth → is_top h ≡ false = λ d. ne_eqb h.depth 1 (λ e. omega arith) in
    record {
      kind = leb-true _ _ (first_holds _ _ _ right);
      synchrony = word_small (is_action i) i.synchrony 1 synchrony;
      error = word_small (is_action i) i.error 3 error;
      no_words = λ e. (eqb-true _ _ (picked _ _ _ synchrony e), eqb-true _ _ (picked _ _ _ error e));
      part = leb-true _ _ (every-head _ _ parts);
      inner_part = λ d. eqb-true _ _ (passed_over _ _ _ (every-head _ _ (every_rest _ _ parts)) (deeper d));
      delay = leb-true _ _ (first_holds _ _ _ right₄);
      event = event-small (is_top h) (in_order h i) c.events i.event events;
      top_event = λ d. between-low 1 c.events i.event (every-head _ _ (topmost d));
      order = λ d. every-head _ _ (every_rest _ _ (topmost d));
      inner_event = λ d. eqb-true _ _ (passed_over _ _ _ events (deeper d));
      depth = leb-true _ _ (every-head _ _ nesting);
      end = λ e. leb-true _ _ (passed_over _ _ _ (every-head _ _ (every_rest _ _ nesting)) e);
      number = λ e. ltb-true _ _ (picked _ _ _ (first_holds _ _ _ right₇) e);
      actions = λ e. ltb-true _ _ (picked _ _ _ (first_holds _ _ _ right₈) e);
    }

-- "A group ends within the group that holds it", and an action has nothing within it.
pub within-left : {i : Item} {c : Counts} {h : Setting} {left n : ℕ} → Right i c h left n → within_of i ≤ left
unfolding within_of pick
within-left {i} {left = left} r = go (is_action i) refl
  where
    go : (b : Bool) → is_action i ≡ b → pick b 0 i.last ≤ left
    go true e = omega arith
    go false e = r.end e

-- "at most 1,024 actions", this item among them
pub own_room : {i : Item} {c : Counts} {h : Setting} {left n : ℕ} → Right i c h left n → n ≤ most_actions → n + own_of i ≤ most_actions
unfolding own_of pick
own_room {i} {n = n} r m = go (is_action i) refl
  where
    go : (b : Bool) → is_action i ≡ b → n + pick b 1 0 ≤ most_actions
    go true e = omega (arith, r.actions e)
    go false e = omega arith

-- ---- the table

pub data Walked (c : Counts) : (h : Setting) (n : ℕ) → List Item → (m : ℕ) → Type 0 where
  walked_none : {h : Setting} {n : ℕ} → Walked c h n [] n
  walked_item : {h : Setting} {n k m : ℕ} {i : Item} {b l : List Item} → Right i c h (length (b ++ l)) n → length b ≡ within_of i → Walked c (inside i h) (n + own_of i) b k
      → Walked c (next i h) k l m → Walked c h n (i ∷ (b ++ l)) m

-- A walk in two parts that ends: so does the first, and the second from there.
onward-ended : (w : Result ℕ Fault) (on : ℕ → Result ℕ Fault) (m : ℕ) → onward w on ≡ Ok m → (k : ℕ) × (w ≡ Ok k) × (on k ≡ Ok m)
unfolding onward
onward-ended (Ok k) on m e = (k, refl, e)
onward-ended (Err x) on m e = let z : ◌≡◌ {A = ℕ} 0 1 = cc in absurd (omega arith)

item-passed : (v : Check ItemRule) (at : ℕ) (w : Result ℕ Fault) (m : ℕ) → on_from v at w ≡ Ok m → (v ≡ fine) × (w ≡ Ok m)
unfolding on_from
item-passed fine at w m e = (refl, e)
item-passed (refused r) at w m e = let z : ◌≡◌ {A = ℕ} 0 1 = cc in absurd (omega arith)

none-walked : (c : Counts) (h : Setting) (n m : ℕ) → ◌≡◌ {A = Result ℕ Fault} (Ok n) (Ok m) → Walked c h n [] m
none-walked c h n m e = let q : n ≡ m = cc in rw (← q) walked_none

pub walk-walked : (x : ℕ) (c : Counts) (at : ℕ) (is : List Item) (h : Setting) (n m : ℕ) → length is ≤ x → walk_of x c at is h n ≡ Ok m → Walked c h n is m
unfolding walk_of
walk-walked zero c at [] h n m l e = none-walked c h n m e
walk-walked zero c at (i ∷ is) h n m l e = absurd (omega arith)
walk-walked (suc x) c at [] h n m l e = none-walked c h n m e
walk-walked (suc x) c at (i ∷ is) h n m l e =
    let passed = item-passed (item_right i c h (length is) n) at _ m e in
    let ended = onward-ended _ _ m passed.1 in
    let r = right-item i c h (length is) n passed.0 in
    let k = within_of i in
    let a : length (take k is) ≡ k = length-take-le k is (within-left r) in
    let d : length (drop k is) ≤ x = simp length-drop (omega arith) in
    let here : Right i c h (length (take k is ++ drop k is)) n = rw take-append-drop r in
    rw take-append-drop at
    (walked_item {k = ended.0} here a
    (walk-walked x c _ (take k is) (inside i h) _ _ (omega (arith, within-left r)) ended.1)
    (walk-walked x c _ (drop k is) (next i h) _ m d ended.2))

walk-ended : (w : Result ℕ Fault) → walk_fault w ≡ fine → (m : ℕ) × (w ≡ Ok m)
unfolding walk_fault
walk-ended (Ok m) e = (m, refl)
walk-ended (Err x) e = let z : ◌≡◌ {A = ℕ} 0 1 = cc in absurd (omega arith)

pub table-walked : (c : Counts) (is : List Item) → items_right c is ≡ fine → (m : ℕ) × Walked c outset 0 is m
unfolding items_right walked
table-walked c is e = let w = walk-ended _ e in (w.0, walk-walked (length is) c (items_at c) is outset 0 w.0 (omega arith) w.1)

-- ---- a walk that ends has met no 1,025th action

pub walked-few : {c : Counts} {h : Setting} {n m : ℕ} {is : List Item} → Walked c h n is m → n ≤ most_actions → m ≤ most_actions
walked-few walked_none p = p
walked-few (walked_item r e b l) p = walked-few l (walked-few b (own_room r p))

-- ---- and counts on from those before it

pub walked_more : {c : Counts} {h : Setting} {n m : ℕ} {is : List Item} → Walked c h n is m → n ≤ m
walked_more walked_none = omega arith
walked_more (walked_item {i = i} r e b l) = omega (arith, walked_more b, walked_more l)
