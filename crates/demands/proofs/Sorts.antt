-- The sequencer puts messages into the send room from the front of the page on, each behind those not due later; that is the order of sending.
-- Assumes nothing.
use mathlib.Core.Path.{◌≡◌, refl, ap, sym, ◌∙◌}
use Prim.Native.Nat.{◌≤◌, ◌<◌}
use mathlib.Core.Bool.{Bool, true, false}
use mathlib.Core.List.{List, [], ◌∷◌, map}
use native.Mathlib.Omega.{arith}
use lib.Dec.{leb}
use borrow.Author.Tests.{leb-true, leb-false, le-leb, lt-leb}
use Rattle.sending.specs.Room.{Message}
use Rattle.sending.specs.Sending.{behind, ordered}
use Rattle.demands.specs.Messages.{Sent, insert, order}
use Rattle.demands.specs.Answers.{message_of}
use Rattle.demands.proofs.Ordered
use Rattle.demands.proofs.Ordered.{insert-ahead, insert-behind, Place, place}

-- Put in before those not due earlier.
ahead : Message → List Message → List Message
ahead x [] = x ∷ []
ahead x (y ∷ l) = elim (leb x.due y.due) [ true ↦ x ∷ y ∷ l | false ↦ y ∷ ahead x l ]

ahead-yes : (x y : Message) (l : List Message) → x.due ≤ y.due → ahead x (y ∷ l) ≡ x ∷ y ∷ l
unfolding ahead
ahead-yes x y l h = rw (le-leb x.due y.due h, ahead)

ahead-no : (x y : Message) (l : List Message) → y.due < x.due → ahead x (y ∷ l) ≡ y ∷ ahead x l
unfolding ahead
ahead-no x y l h = rw (lt-leb x.due y.due h, ahead)

behind-yes : (x y : Message) (l : List Message) → y.due ≤ x.due → behind x (y ∷ l) ≡ y ∷ behind x l
unfolding behind
behind-yes x y l h = rw (le-leb y.due x.due h, behind)

behind-no : (x y : Message) (l : List Message) → x.due < y.due → behind x (y ∷ l) ≡ x ∷ y ∷ l
unfolding behind
behind-no x y l h = rw (lt-leb y.due x.due h, behind)

-- x stands before y on the page: whichever is put in first, they stand alike.
commute : (x y : Message) (l : List Message) → behind y (ahead x l) ≡ ahead x (behind y l)
unfolding ahead behind
commute x y [] = go (leb x.due y.due) refl
  where
    go : (t : Bool) → leb x.due y.due ≡ t → behind y (x ∷ []) ≡ ahead x (y ∷ [])
    go true e = behind-yes y x [] (leb-true _ _ e) ∙ sym (ahead-yes x y [] (leb-true _ _ e))
    go false e = behind-no y x [] (leb-false _ _ e) ∙ sym (ahead-no x y [] (leb-false _ _ e))
commute x y (z ∷ l) = go (leb x.due z.due) (leb z.due y.due) (leb x.due y.due) refl refl refl (commute x y l)
  where
    go : (a b c : Bool) → leb x.due z.due ≡ a → leb z.due y.due ≡ b → leb x.due y.due ≡ c → behind y (ahead x l) ≡ ahead x (behind y l)
        → behind y (ahead x (z ∷ l)) ≡ ahead x (behind y (z ∷ l))
    go true true c p q r ih =
        let g = leb-true x.due z.due p in
        let h = leb-true z.due y.due q in
        rw (ahead-yes x z l g, behind-yes y x (z ∷ l) (omega arith), behind-yes y z l h, ahead-yes x z (behind y l) g)
    go true false true p q r ih =
        let g = leb-true x.due z.due p in
        let h = leb-false z.due y.due q in
        let k = leb-true x.due y.due r in
        rw (ahead-yes x z l g, behind-yes y x (z ∷ l) k, behind-no y z l h, ahead-yes x y (z ∷ l) k)
    go true false false p q r ih =
        let g = leb-true x.due z.due p in
        let h = leb-false z.due y.due q in
        let k = leb-false x.due y.due r in
        rw (ahead-yes x z l g, behind-no y x (z ∷ l) k, behind-no y z l h, ahead-no x y (z ∷ l) k, ahead-yes x z l g)
    go false true c p q r ih =
        let g = leb-false x.due z.due p in
        let h = leb-true z.due y.due q in
        rw (ahead-no x z l g, behind-yes y z (ahead x l) h, behind-yes y z l h, ahead-no x z (behind y l) g, ih)
    go false false c p q r ih =
        let g = leb-false x.due z.due p in
        let h = leb-false z.due y.due q in
        rw (ahead-no x z l g, behind-no y z (ahead x l) h, behind-no y z l h, ahead-no x y (z ∷ l) (omega arith), ahead-no x z l g)

ordered-ahead : (x : Message) (a l : List Message) → ordered (ahead x a) l ≡ ahead x (ordered a l)
unfolding ordered
ordered-ahead x a [] = refl
ordered-ahead x a (y ∷ l) = rw (commute x y a) (ordered-ahead x (behind y a) l)

insert-word : (x : Sent) (l : List Sent) → map message_of (insert x l) ≡ ahead (message_of x) (map message_of l)
unfolding insert ahead message_of
insert-word x [] = refl
insert-word x (y ∷ l) = go (place x y) (insert-word x l)
  where
    go : Place x y → map message_of (insert x l) ≡ ahead (message_of x) (map message_of l)
        → map message_of (insert x (y ∷ l)) ≡ ahead (message_of x) (message_of y ∷ map message_of l)
    go (Ordered.ahead h) ih = rw (insert-ahead x y l h) (sym (ahead-yes (message_of x) (message_of y) (map message_of l) h))
    go (Ordered.behind h) ih = rw (insert-behind x y l h, ahead-no (message_of x) (message_of y) (map message_of l) h, ih)

-- The two orders are one.
pub ordered-is : (l : List Sent) → ordered [] (map message_of l) ≡ map message_of (order l)
unfolding ordered order behind ahead
ordered-is [] = refl
ordered-is (x ∷ l) = ordered-ahead (message_of x) [] (map message_of l) ∙ (ap (ahead (message_of x)) (ordered-is l) ∙ sym (insert-word x (order l)))
