-- Laws of the order of sending: it is by due date, keeps what stands in order, and keeps every message once.
-- Assumes nothing.
use mathlib.Core.Path.{◌≡◌, refl, ap, ◌∙◌}
use Prim.Native.Nat.{ℕ, suc, ◌≤◌, ◌<◌}
use mathlib.Core.Bool.{Bool, true, false}
use mathlib.Core.List.{List, [], ◌∷◌, Memᴰ}
use native.Mathlib.Omega.{arith}
use lib.Dec.{leb}
use lib.ListN.{length}
use borrow.Author.Tests.{leb-true, leb-false, le-leb, lt-leb}
use Rattle.base.specs.Tests.{pick}
use Rattle.demands.specs.Messages.{Sent, insert, order}
use Rattle.demands.specs.Demands.{tally}

-- ---- one message put into a list

pub insert-ahead : (x y : Sent) (l : List Sent) → x.due ≤ y.due → insert x (y ∷ l) ≡ x ∷ y ∷ l
unfolding insert
insert-ahead x y l h = rw (le-leb x.due y.due h, insert)

pub insert-behind : (x y : Sent) (l : List Sent) → y.due < x.due → insert x (y ∷ l) ≡ y ∷ insert x l
unfolding insert
insert-behind x y l h = rw (lt-leb x.due y.due h, insert)

pub data Place (x y : Sent) : Type 0 where
  ahead : x.due ≤ y.due → Place x y
  behind : y.due < x.due → Place x y

pub place : (x y : Sent) → Place x y
place x y = go (leb x.due y.due) refl
  where
    go : (t : Bool) → leb x.due y.due ≡ t → Place x y
    go true e = ahead (leb-true _ _ e)
    go false e = behind (leb-false _ _ e)

-- ---- by due date

-- Each is due at d or later.
pub data From (d : ℕ) : List Sent → Type 0 where
  none : From d []
  one : {x : Sent} {l : List Sent} → d ≤ x.due → From d l → From d (x ∷ l)

pub data Sorted : List Sent → Type 0 where
  empty : Sorted []
  link : {x : Sent} {l : List Sent} → From x.due l → Sorted l → Sorted (x ∷ l)

pub from-lower : {d e : ℕ} {l : List Sent} → d ≤ e → From e l → From d l
from-lower h none = none
from-lower h (one {x = x} p q) = one {x = x} (omega arith) (from-lower h q)

from-insert : {d : ℕ} (x : Sent) {l : List Sent} → d ≤ x.due → From d l → From d (insert x l)
unfolding insert
from-insert x h none = one h none
from-insert {d} x h (one {x = y} {l = l} p q) = go (place x y) (from-insert x h q)
  where
    go : Place x y → From d (insert x l) → From d (insert x (y ∷ l))
    go (ahead a) r = rw (insert-ahead x y l a) (one h (one p q))
    go (behind b) r = rw (insert-behind x y l b) (one p r)

sorted_insert : (x : Sent) {l : List Sent} → Sorted l → Sorted (insert x l)
unfolding insert
sorted_insert x empty = link none empty
sorted_insert x (link {x = y} {l = l} f s) = go (place x y) (sorted_insert x s)
  where
    go : Place x y → Sorted (insert x l) → Sorted (insert x (y ∷ l))
    go (ahead a) r = rw (insert-ahead x y l a) (link (one a (from-lower a f)) (link f s))
    go (behind b) r = rw (insert-behind x y l b) (link (from-insert x (omega arith) f) r)

pub sorted-order : (l : List Sent) → Sorted (order l)
unfolding order
sorted-order [] = empty
sorted-order (x ∷ l) = sorted_insert x (sorted-order l)

pub insert-first : (x : Sent) {l : List Sent} → From x.due l → insert x l ≡ x ∷ l
unfolding insert
insert-first x none = refl
insert-first x (one {x = y} {l = l} p q) = insert-ahead x y l p

-- ---- every message once

length-insert : (x : Sent) (l : List Sent) → length (insert x l) ≡ suc (length l)
unfolding insert
length-insert x [] = refl
length-insert x (y ∷ l) = go (place x y) (length-insert x l)
  where
    go : Place x y → length (insert x l) ≡ suc (length l) → length (insert x (y ∷ l)) ≡ suc (suc (length l))
    go (ahead a) ih = rw (insert-ahead x y l a)
    go (behind b) ih = rw (insert-behind x y l b) (ap suc ih)

pub length-order : (l : List Sent) → length (order l) ≡ length l
unfolding order
length-order [] = refl
length-order (x ∷ l) = length-insert x (order l) ∙ ap suc (length-order l)

pub in_insert : {z : Sent} (x : Sent) (l : List Sent) → Memᴰ z (insert x l) → Memᴰ z (x ∷ l)
unfolding insert
in_insert x [] m = m
in_insert {z} x (y ∷ l) m = go (place x y) m (in_insert x l)
  where
    swap : Memᴰ z (x ∷ l) → Memᴰ z (x ∷ y ∷ l)
    swap (Memᴰ.head e) = Memᴰ.head e
    swap (Memᴰ.tail k) = Memᴰ.tail (Memᴰ.tail k)

    deeper : Memᴰ z (y ∷ insert x l) → (Memᴰ z (insert x l) → Memᴰ z (x ∷ l)) → Memᴰ z (x ∷ y ∷ l)
    deeper (Memᴰ.head e) ih = Memᴰ.tail (Memᴰ.head e)
    deeper (Memᴰ.tail k) ih = swap (ih k)

    go : Place x y → Memᴰ z (insert x (y ∷ l)) → (Memᴰ z (insert x l) → Memᴰ z (x ∷ l)) → Memᴰ z (x ∷ y ∷ l)
    go (ahead a) k ih = rw (insert-ahead x y l a) at k
    go (behind b) k ih = deeper (rw (insert-behind x y l b) at k) ih

pub in_order : {z : Sent} (l : List Sent) → Memᴰ z (order l) → Memᴰ z l
unfolding order
in_order [] m = m
in_order {z} (x ∷ l) m = go (in_insert x (order l) m) (in_order l)
  where
    go : Memᴰ z (x ∷ order l) → (Memᴰ z (order l) → Memᴰ z l) → Memᴰ z (x ∷ l)
    go (Memᴰ.head e) ih = Memᴰ.head e
    go (Memᴰ.tail k) ih = Memᴰ.tail (ih k)

module _ (t : Sent → Bool) where
  pub tally-one-more : (x : Sent) (a b : List Sent) → tally t a ≡ tally t b → tally t (x ∷ a) ≡ tally t (x ∷ b)
  unfolding tally
  tally-one-more x a b e = rw e

  tally-swap : (x y : Sent) (l : List Sent) → tally t (y ∷ x ∷ l) ≡ tally t (x ∷ y ∷ l)
  unfolding tally pick
  tally-swap x y l = go (t x) (t y)
    where
      go : (a b : Bool)
          → pick b (suc (pick a (suc (tally t l)) (tally t l))) (pick a (suc (tally t l)) (tally t l)) ≡ pick a (suc (pick b (suc (tally t l)) (tally t l))) (pick b (suc (tally t l)) (tally t l))
      go true true = refl
      go true false = refl
      go false true = refl
      go false false = refl

  tally-insert : (x : Sent) (l : List Sent) → tally t (insert x l) ≡ tally t (x ∷ l)
  unfolding insert
  tally-insert x [] = refl
  tally-insert x (y ∷ l) = go (place x y) (tally-insert x l)
    where
      go : Place x y → tally t (insert x l) ≡ tally t (x ∷ l) → tally t (insert x (y ∷ l)) ≡ tally t (x ∷ y ∷ l)
      go (ahead a) ih = rw (insert-ahead x y l a)
      go (behind b) ih = rw (insert-behind x y l b) (tally-one-more y _ _ ih ∙ tally-swap x y l)

  pub tally-order : (l : List Sent) → tally t (order l) ≡ tally t l
  unfolding order
  tally-order [] = refl
  tally-order (x ∷ l) = tally-insert x (order l) ∙ tally-one-more x _ _ (tally-order l)
