-- Two sets of parts with none in common: their messages in the order of sending, merged, are those of both sets in that order. By putting in one message of
-- the page after the other, from the last place on.
-- Assumes nothing.
use mathlib.Core.Path.{◌≡◌, refl, ap, sym, ◌∙◌}
use Prim.Native.Nat.{ℕ, ◌≤◌, ◌<◌}
use mathlib.Core.Bool.{Bool, true, false}
use mathlib.Core.List.{List, [], ◌∷◌}
use native.Mathlib.Omega.{arith}
use Rattle.base.specs.Tests.{pick}
use Rattle.base.specs.Only.{only}
use Rattle.demands.specs.Messages.{Sent, insert, order}
use Rattle.demands.specs.Demands.{either, only_parts, comes_before, weave, merge}
use Rattle.demands.proofs.Ordered.{insert-ahead, insert-behind, Place, ahead, behind, place}
use Rattle.demands.proofs.Parts.{part_in, part_out}
use Rattle.demands.proofs.Paged.{comes-earlier, comes-later, comes-first, comes-second, before-due, after-due, Past, none, one, Paged, empty, link, past-order, past-only}

-- ---- one step of a merge

weave-yes : (x y : Sent) (f : List Sent → List Sent) (b : List Sent) → comes_before x y ≡ true → weave x f (y ∷ b) ≡ x ∷ f (y ∷ b)
unfolding weave
weave-yes x y f b e = rw (e, weave)

weave-no : (x y : Sent) (f : List Sent → List Sent) (b : List Sent) → comes_before x y ≡ false → weave x f (y ∷ b) ≡ y ∷ weave x f b
unfolding weave
weave-no x y f b e = rw (e, weave)

-- ---- x stands before all of b on the page, and goes into the first list

weave-nil : (x : Sent) {b : List Sent} → Past x.place b → weave x (merge []) b ≡ insert x b
unfolding weave merge insert
weave-nil x none = refl
weave-nil x (one {x = y} {l = b} p q) = go (place x y) (weave-nil x q)
  where
    go : Place x y → weave x (merge []) b ≡ insert x b → weave x (merge []) (y ∷ b) ≡ insert x (y ∷ b)
    go (ahead h) ih = weave-yes x y (merge []) b (comes-first x y p h) ∙ sym (insert-ahead x y b h)
    go (behind h) ih = rw (weave-no x y (merge []) b (comes-later x y h), insert-behind x y b h, ih)

-- where x is not after z
weave-low : (x z : Sent) (a : List Sent) {b : List Sent} → x.due ≤ z.due → Past x.place b → weave x (weave z (merge a)) b ≡ insert x (weave z (merge a) b)
unfolding weave
weave-low x z a h none = sym (insert-ahead x z _ h)
weave-low x z a h (one {x = y} {l = b} p q) = go (place x y) (comes_before z y) refl (weave-low x z a h q)
  where
    go : Place x y → (v : Bool) → comes_before z y ≡ v → weave x (weave z (merge a)) b ≡ insert x (weave z (merge a) b)
        → weave x (weave z (merge a)) (y ∷ b) ≡ insert x (weave z (merge a) (y ∷ b))
    go (ahead g) true f ih = rw (weave-yes x y (weave z (merge a)) b (comes-first x y p g), weave-yes z y (merge a) b f) (sym (insert-ahead x z _ h))
    go (ahead g) false f ih = rw (weave-yes x y (weave z (merge a)) b (comes-first x y p g), weave-no z y (merge a) b f) (sym (insert-ahead x y _ g))
    go (behind g) v f ih =
        rw (weave-no x y (weave z (merge a)) b (comes-later x y g), weave-no z y (merge a) b (comes-later z y (omega arith)), insert-behind x y (weave z (merge a) b) g, ih)

-- where x is after z
weave-high : (x z : Sent) (a : List Sent) {b : List Sent} → z.due < x.due → ((k : List Sent) → Past x.place k → merge (insert x a) k ≡ insert x (merge a k))
    → Past x.place b → weave z (merge (insert x a)) b ≡ insert x (weave z (merge a) b)
unfolding weave
weave-high x z a h f none = ap (λ (l : List Sent). z ∷ l) (f [] none) ∙ sym (insert-behind x z _ h)
weave-high x z a h f (one {x = y} {l = b} p q) = go (comes_before z y) refl (weave-high x z a h f q)
  where
    go : (v : Bool) → comes_before z y ≡ v → weave z (merge (insert x a)) b ≡ insert x (weave z (merge a) b)
        → weave z (merge (insert x a)) (y ∷ b) ≡ insert x (weave z (merge a) (y ∷ b))
    go true e ih = rw (weave-yes z y (merge (insert x a)) b e, weave-yes z y (merge a) b e, insert-behind x z (merge a (y ∷ b)) h) (ap (λ (l : List Sent). z ∷ l) (f (y ∷ b) (one p q)))
    go false e ih = rw (weave-no z y (merge (insert x a)) b e, weave-no z y (merge a) b e, insert-behind x y (weave z (merge a) b) (omega (arith, after-due z y e)), ih)

insert-left : (x : Sent) (a : List Sent) {b : List Sent} → Past x.place b → merge (insert x a) b ≡ insert x (merge a b)
unfolding insert merge
insert-left x [] p = weave-nil x p
insert-left x (z ∷ a) {b} p = go (place x z) (λ k r. insert-left x a {b = k} r)
  where
    go : Place x z → ((k : List Sent) → Past x.place k → merge (insert x a) k ≡ insert x (merge a k)) → merge (insert x (z ∷ a)) b ≡ insert x (weave z (merge a) b)
    go (ahead h) ih = rw (insert-ahead x z a h) (weave-low x z a h p)
    go (behind h) ih = rw (insert-behind x z a h) (weave-high x z a h ih p)

-- ---- x stands before all of a on the page, and goes into the second list

right-nil : (x z : Sent) (a : List Sent) → x.place < z.place → merge a (insert x []) ≡ insert x (merge a [])
    → weave z (merge a) (insert x []) ≡ insert x (weave z (merge a) [])
unfolding insert weave
right-nil x z a p ih = go (place x z)
  where
    go : Place x z → weave z (merge a) (x ∷ []) ≡ insert x (z ∷ merge a [])
    go (ahead h) = weave-no z x (merge a) [] (comes-second z x p h) ∙ sym (insert-ahead x z (merge a []) h)
    go (behind h) = rw (weave-yes z x (merge a) [] (comes-earlier z x h), insert-behind x z (merge a []) h) (ap (λ (l : List Sent). z ∷ l) ih)

right-low : (x y z : Sent) (a b : List Sent) → x.place < z.place → x.due ≤ y.due → merge a (insert x (y ∷ b)) ≡ insert x (merge a (y ∷ b))
    → weave z (merge a) (x ∷ y ∷ b) ≡ insert x (weave z (merge a) (y ∷ b))
right-low x y z a b p h ih = go (place x z) (comes_before z y) refl
  where
    go : Place x z → (v : Bool) → comes_before z y ≡ v → weave z (merge a) (x ∷ y ∷ b) ≡ insert x (weave z (merge a) (y ∷ b))
    go (behind g) v f =
        rw (weave-yes z x (merge a) (y ∷ b) (comes-earlier z x g), weave-yes z y (merge a) b (comes-earlier z y (omega arith)), insert-behind x z (merge a (y ∷ b)) g, ← ih, insert-ahead x y b h)
    go (ahead g) true f = rw (weave-no z x (merge a) (y ∷ b) (comes-second z x p g), weave-yes z y (merge a) b f) (sym (insert-ahead x z _ g))
    go (ahead g) false f = rw (weave-no z x (merge a) (y ∷ b) (comes-second z x p g), weave-no z y (merge a) b f) (sym (insert-ahead x y _ h))

right-high : (x y z : Sent) (a b : List Sent) → y.due < x.due → merge a (insert x (y ∷ b)) ≡ insert x (merge a (y ∷ b))
    → weave z (merge a) (insert x b) ≡ insert x (weave z (merge a) b) → weave z (merge a) (y ∷ insert x b) ≡ insert x (weave z (merge a) (y ∷ b))
right-high x y z a b h ia ib = go (comes_before z y) refl
  where
    go : (v : Bool) → comes_before z y ≡ v → weave z (merge a) (y ∷ insert x b) ≡ insert x (weave z (merge a) (y ∷ b))
    go true f = rw (weave-yes z y (merge a) (insert x b) f, weave-yes z y (merge a) b f, insert-behind x z (merge a (y ∷ b)) (omega (arith, before-due z y f)), ← ia, insert-behind x y b h)
    go false f = rw (weave-no z y (merge a) (insert x b) f, weave-no z y (merge a) b f, insert-behind x y (weave z (merge a) b) h, ib)

right-weave : (x z : Sent) (a b : List Sent) → x.place < z.place → ((k : List Sent) → merge a (insert x k) ≡ insert x (merge a k))
    → weave z (merge a) (insert x b) ≡ insert x (weave z (merge a) b)
right-weave x z a [] p f = right-nil x z a p (f [])
right-weave x z a (y ∷ b) p f = go (place x y) (right-weave x z a b p f)
  where
    go : Place x y → weave z (merge a) (insert x b) ≡ insert x (weave z (merge a) b) → weave z (merge a) (insert x (y ∷ b)) ≡ insert x (weave z (merge a) (y ∷ b))
    go (ahead h) ih = rw (insert-ahead x y b h) (right-low x y z a b p h (f (y ∷ b)))
    go (behind h) ih = rw (insert-behind x y b h) (right-high x y z a b h (f (y ∷ b)) ih)

insert-right : (x : Sent) {a : List Sent} (b : List Sent) → Past x.place a → merge a (insert x b) ≡ insert x (merge a b)
unfolding merge
insert-right x b none = refl
insert-right x b (one {x = z} {l = a} p q) = right-weave x z a b p (λ k. insert-right x k q)

-- ---- two sets with no part in common

either_left : (S U : ℕ → Bool) (p : ℕ) → S p ≡ true → either S U p ≡ true
unfolding either pick
either_left S U p e = rw e

either-right : (S U : ℕ → Bool) (p : ℕ) → S p ≡ false → either S U p ≡ U p
unfolding either pick
either-right S U p e = rw e

pub merged : (S U : ℕ → Bool) → ((p : ℕ) → S p ≡ true → U p ≡ false) → {l : List Sent} → Paged l
    → order (only_parts (either S U) l) ≡ merge (order (only_parts S l)) (order (only_parts U l))
unfolding order only merge
merged S U d empty = refl
merged S U d (link {x = x} {l = l} p q) = go (S x.part) (U x.part) refl refl (merged S U d q)
  where
    go : (a b : Bool) → S x.part ≡ a → U x.part ≡ b → order (only_parts (either S U) l) ≡ merge (order (only_parts S l)) (order (only_parts U l))
        → order (only_parts (either S U) (x ∷ l)) ≡ merge (order (only_parts S (x ∷ l))) (order (only_parts U (x ∷ l)))
    go true b e f ih =
        rw (part_in (either S U) x l (either_left S U x.part e), part_in S x l e, part_out U x l (d x.part e))
        (ap (insert x) ih ∙ sym (insert-left x (order (only_parts S l)) (past-order (past-only U p))))
    go false true e f ih =
        rw (part_in (either S U) x l (either-right S U x.part e ∙ f), part_out S x l e, part_in U x l f)
        (ap (insert x) ih ∙ sym (insert-right x (order (only_parts U l)) (past-order (past-only S p))))
    go false false e f ih =
        rw (part_out (either S U) x l (either-right S U x.part e ∙ f), part_out S x l e, part_out U x l f) ih
