-- Messages in page order, put into the order of sending: "by due date and then page place", each before all that follow it.
-- Assumes nothing.
use mathlib.Core.Path.{◌≡◌, refl}
use Prim.Native.Nat.{ℕ, ◌≤◌, ◌<◌}
use mathlib.Core.Bool.{Bool, true, false}
use mathlib.Core.List.{List, [], ◌∷◌, Memᴰ}
use native.Mathlib.Omega.{arith}
use lib.Dec.{ltb, eqb}
use borrow.Author.Tests.{ltb-true, ltb-false, lt-ltb, le-ltb, eqb-false, ne_eqb}
use Rattle.base.specs.Tests.{pick}
use Rattle.base.specs.Only.{only}
use Rattle.demands.specs.Messages.{Sent, insert, order}
use Rattle.demands.specs.Demands.{only_parts, comes_before, InOrder, no_more, then}
use Rattle.demands.proofs.Ordered.{insert-ahead, insert-behind, Place, ahead, behind, place, in_insert}
use Rattle.demands.proofs.Parts.{part_in, part_out}

-- ---- which message comes before the other

pub comes-earlier : (x y : Sent) → x.due < y.due → comes_before x y ≡ true
unfolding comes_before pick
comes-earlier x y h = rw (ne_eqb x.due y.due (λ e. omega arith), lt-ltb x.due y.due h)

pub comes-later : (x y : Sent) → y.due < x.due → comes_before x y ≡ false
unfolding comes_before pick
comes-later x y h = rw (ne_eqb x.due y.due (λ e. omega arith), le-ltb x.due y.due (omega arith))

-- Of two that are due together, the one that stands first on the page.
pub comes-first : (x y : Sent) → x.place < y.place → x.due ≤ y.due → comes_before x y ≡ true
unfolding comes_before pick
comes-first x y p h = go (eqb x.due y.due) refl
  where
    go : (t : Bool) → eqb x.due y.due ≡ t → comes_before x y ≡ true
    go true e = rw (e, lt-ltb x.place y.place p)
    go false e = let n : x.due ≡ y.due → ⊥ = eqb-false _ _ e in comes-earlier x y (omega arith)

pub comes-second : (x y : Sent) → y.place < x.place → y.due ≤ x.due → comes_before x y ≡ false
unfolding comes_before pick
comes-second x y p h = go (eqb x.due y.due) refl
  where
    go : (t : Bool) → eqb x.due y.due ≡ t → comes_before x y ≡ false
    go true e = rw (e, le-ltb x.place y.place (omega arith))
    go false e = let n : x.due ≡ y.due → ⊥ = eqb-false _ _ e in comes-later x y (omega arith)

pub before-due : (x y : Sent) → comes_before x y ≡ true → x.due ≤ y.due
before-due x y e = go (place x y)
  where
    go : Place x y → x.due ≤ y.due
    go (ahead h) = h
    go (behind h) = let z : ◌≡◌ {A = ℕ} 0 1 = cc (comes-later x y h) in absurd (omega arith)

pub after-due : (x y : Sent) → comes_before x y ≡ false → y.due ≤ x.due
after-due x y e = go (ltb x.due y.due) refl
  where
    go : (t : Bool) → ltb x.due y.due ≡ t → y.due ≤ x.due
    go true f = let z : ◌≡◌ {A = ℕ} 0 1 = cc (comes-earlier x y (ltb-true _ _ f)) in absurd (omega arith)
    go false f = ltb-false _ _ f

-- ---- messages that stand after a place of the page

pub data Past (a : ℕ) : List Sent → Type 0 where
  none : Past a []
  one : {x : Sent} {l : List Sent} → a < x.place → Past a l → Past a (x ∷ l)

pub data Paged : List Sent → Type 0 where
  empty : Paged []
  link : {x : Sent} {l : List Sent} → Past x.place l → Paged l → Paged (x ∷ l)

past-insert : {a : ℕ} (x : Sent) {l : List Sent} → a < x.place → Past a l → Past a (insert x l)
unfolding insert
past-insert x h none = one h none
past-insert {a} x h (one {x = y} {l = l} p q) = go (place x y) (past-insert x h q)
  where
    go : Place x y → Past a (insert x l) → Past a (insert x (y ∷ l))
    go (ahead g) r = rw (insert-ahead x y l g) (one h (one p q))
    go (behind g) r = rw (insert-behind x y l g) (one p r)

pub past-order : {a : ℕ} {l : List Sent} → Past a l → Past a (order l)
unfolding order
past-order none = none
past-order (one {x = x} p q) = past-insert x p (past-order q)

pub past-only : (S : ℕ → Bool) {a : ℕ} {l : List Sent} → Past a l → Past a (only_parts S l)
unfolding only
past-only S none = none
past-only S {a} (one {x = x} {l = l} p q) = go (S x.part) refl (past-only S q)
  where
    go : (t : Bool) → S x.part ≡ t → Past a (only_parts S l) → Past a (only_parts S (x ∷ l))
    go true e r = rw (part_in S x l e) (one p r)
    go false e r = rw (part_out S x l e) r

pub paged-only : (S : ℕ → Bool) {l : List Sent} → Paged l → Paged (only_parts S l)
unfolding only
paged-only S empty = empty
paged-only S (link {x = x} {l = l} p r) = go (S x.part) refl (paged-only S r)
  where
    go : (t : Bool) → S x.part ≡ t → Paged (only_parts S l) → Paged (only_parts S (x ∷ l))
    go true e ih = rw (part_in S x l e) (link (past-only S p) ih)
    go false e ih = rw (part_out S x l e) ih

-- ---- each before all that follow it

past-in : {a : ℕ} {l : List Sent} (z : Sent) → Past a l → Memᴰ z l → a < z.place
past-in z none m = elim m [ ]
past-in {a} z (one {x = x} p q) (Memᴰ.head e) = rw e p
past-in z (one p q) (Memᴰ.tail m) = past-in z q m

insert-in-order : (x : Sent) {l : List Sent} → Past x.place l → InOrder l → InOrder (insert x l)
unfolding insert
insert-in-order x p no_more = then {x = x} {l = []} (λ z m. elim m [ ]) no_more
insert-in-order x (one {x = y} {l = l} p q) (then f r) = go (place x y) (insert-in-order x q r)
  where
    first : x.due ≤ y.due → (z : Sent) → Memᴰ z (y ∷ l) → comes_before x z ≡ true
    first h z (Memᴰ.head e) = rw e (comes-first x y p h)
    first h z (Memᴰ.tail m) = comes-first x z (past-in z q m) (omega (arith, before-due y z (f z m)))

    later : y.due < x.due → (z : Sent) → Memᴰ z (x ∷ l) → comes_before y z ≡ true
    later h z (Memᴰ.head e) = rw e (comes-earlier y x h)
    later h z (Memᴰ.tail m) = f z m

    go : Place x y → InOrder (insert x l) → InOrder (insert x (y ∷ l))
    go (ahead h) ih = rw (insert-ahead x y l h) (then (first h) (then f r))
    go (behind h) ih = rw (insert-behind x y l h) (then (λ z m. later h z (in_insert x l m)) ih)

pub order-in-order : {l : List Sent} → Paged l → InOrder (order l)
unfolding order
order-in-order empty = no_more
order-in-order (link {x = x} p r) = insert-in-order x (past-order p) (order-in-order r)
