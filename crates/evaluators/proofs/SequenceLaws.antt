-- The item table read as sequences, one item at a time: the first item of what is left, what lies within it and what follows it.
-- Assumes nothing.
use mathlib.Core.Path.{◌≡◌, refl, sym, ap, ap₂, ◌∙◌}
use mathlib.Core.Bool.{Bool, true, false}
use mathlib.Core.List.{List, [], ◌∷◌}
use Prim.Native.Nat.{ℕ, zero, suc, ◌+◌, ◌-◌, ◌≤◌, ◌<◌, min}
use native.Mathlib.Omega.{arith}
use native.Mathlib.Numerals.{add-one}
use lib.Dec.{leb}
use lib.ListN.{length, take, drop, length-take, length-drop, length-map, get_or-map}
use lib.Seq.{take-nil, drop-cons, get_or-take, get_or-drop, drop-drop}
use borrow.Author.Tests.{eq-eqb, ne_eqb, leb-true, leb-false}
use Rattle.page.specs.declared.Item.{Item}
use Rattle.rules.specs.Words.{synchrony_of, error_of}
use Rattle.rules.specs.Score.{Seq, end, action, group}
use Rattle.rules.specs.Page.{sequence_of}
use Rattle.rules.proofs.Places.{sequence-empty}
use Rattle.fates.specs.declared.Places.{Places}
use Rattle.fates.specs.Fields.{item_in}
use Rattle.fates.specs.Places.{PlacesFit, read, items_in}
use Rattle.evaluators.specs.Inner.{item_word_at, Lent, sequence_in}

-- ---- lists

drop-take {ℓ} : {A : Type ℓ} (a b : ℕ) (l : List A) → drop a (take b l) ≡ take (b - a) (drop a l)
drop-take zero b l = let e : b - 0 ≡ b = omega arith in rw e
drop-take (suc a) zero l = let e : 0 - suc a ≡ 0 = omega arith in rw e
drop-take (suc a) (suc b) [] = let e : suc b - suc a ≡ b - a = omega arith in rw e (sym (take-nil (b - a)))
drop-take (suc a) (suc b) (x ∷ l) = let e : suc b - suc a ≡ b - a = omega arith in rw e (drop-take a b l)

take_min {ℓ} : {A : Type ℓ} (a b : ℕ) (l : List A) → take a (take b l) ≡ take (min a b) l
take_min zero b l = let e : min 0 b ≡ 0 = omega arith in rw e
take_min (suc a) zero l = let e : min (suc a) 0 ≡ 0 = omega arith in rw e
take_min (suc a) (suc b) [] = let e : min (suc a) (suc b) ≡ suc (min a b) = omega arith in rw e
take_min (suc a) (suc b) (x ∷ l) = let e : min (suc a) (suc b) ≡ suc (min a b) = omega arith in rw e (ap (λ (k : List _). x ∷ k) (take_min a b l))

-- ---- any bound that is enough gives the same

pub sequence-enough : (n k v p : ℕ) (is : List Item) → length is ≤ n → length is ≤ k → sequence_of n v p is ≡ sequence_of k v p is
unfolding sequence_of
sequence-enough zero zero v p is a b = refl
sequence-enough zero (suc k) v p [] a b = refl
sequence-enough zero (suc k) v p (i ∷ is) a b = absurd (omega arith)
sequence-enough (suc n) zero v p [] a b = refl
sequence-enough (suc n) zero v p (i ∷ is) a b = absurd (omega arith)
sequence-enough (suc n) (suc k) v p [] a b = refl
sequence-enough (suc n) (suc k) zero p (i ∷ is) a b =
    cc (
      sequence-enough n k zero (p + 1) is (omega arith) (omega arith),
      sequence-enough n k zero (p + 1 + i.last) (drop i.last is) (simp length-drop (omega arith)) (simp length-drop (omega arith)),
    )
sequence-enough (suc n) (suc k) (suc u) p (i ∷ is) a b =
    cc (
      sequence-enough n k (suc u) (p + 1) is (omega arith) (omega arith),
      sequence-enough n k u (p + 1) (take i.last is) (simp length-take (omega arith)) (simp length-take (omega arith)),
      sequence-enough n k (suc u) (p + 1 + i.last) (drop i.last is) (simp length-drop (omega arith)) (simp length-drop (omega arith)),
    )

-- a group among c items takes as many as there are, and leaves the others
module _ (c last n : ℕ) (is : List Item) (en : n ≡ min last c) where
  within-read : (v p : ℕ) → sequence_of c v p (take last (take c is)) ≡ sequence_of n v p (take n is)
  within-read v p = rw (take_min last c is, ← en) (sequence-enough c n v p (take n is) (simp length-take (omega arith)) (simp length-take (omega arith)))

  after_read : (v p : ℕ) → sequence_of c v (p + last) (drop last (take c is)) ≡ sequence_of (c - n) v (p + n) (take (c - n) (drop n is))
  after_read v p = rw drop-take (go (leb last c) refl)
    where
      go : (b : Bool) → leb last c ≡ b → sequence_of c v (p + last) (take (c - last) (drop last is)) ≡ sequence_of (c - n) v (p + n) (take (c - n) (drop n is))
      go true h =
          let e : n ≡ last = omega (arith, leb-true last c h) in
          rw e (sequence-enough c (c - last) v (p + last) (take (c - last) (drop last is)) (simp length-take (omega arith)) (simp length-take (omega arith)))
      go false h =
          let e : c - last ≡ 0 = omega (arith, leb-false last c h) in
          let z : c - n ≡ 0 = omega (arith, leb-false last c h) in
          rw (e, z) (sequence-empty c v (p + last) ∙ sym (sequence-empty 0 v (p + n)))

-- ---- the first of count items from page place p on

pub items_count : (t : Places) (m : List ℕ) → PlacesFit t (length m) → length (items_in t m) ≡ t.size
unfolding items_in
items_count t m places = simp (length-map, length-take, length-drop) (omega arith)

pub items-from : (t : Places) (m : List ℕ) (p : ℕ) → PlacesFit t (length m) → p < t.size → drop p (items_in t m) ≡ item_in (item_word_at t m p) ∷ drop (suc p) (items_in t m)
unfolding items_in item_word_at
items-from t m p places h =
    drop-cons (items_in t m) p (item_in 0) (rw items_count h)
    ∙ ap (λ (i : Item). i ∷ drop (suc p) (items_in t m))
    (get_or-map item_in (take t.size (drop t.items (read t m))) p 0
    ∙ ap item_in (get_or-take t.size (drop t.items (read t m)) p 0 h ∙ get_or-drop t.items (read t m) p 0))

-- a group's body, of which nothing is read where no level is left
unfoldable pub body_in : Places → List ℕ → (levels p count : ℕ) → Seq
body_in t m zero p count = end
body_in t m (suc v) p count = sequence_in t m v p count

body-read : (t : Places) (m : List ℕ) (v p c last n : ℕ) → n ≡ min last c
    → elim v [ zero ↦ end | suc u ↦ sequence_of c u (p + 1) (take last (take c (drop (suc p) (items_in t m)))) ] ≡ body_in t m v (p + 1) n
unfolding body_in sequence_in
body-read t m zero p c last n en = refl
body-read t m (suc u) p c last n en = rw (← add-one p) (within-read c last n (drop (p + 1) (items_in t m)) en u (p + 1))

rest_read : (t : Places) (m : List ℕ) (v p c last n : ℕ) → n ≡ min last c
    → sequence_of c v (p + 1 + last) (drop last (take c (drop (suc p) (items_in t m)))) ≡ sequence_in t m v (p + (n + 1)) (suc c - (n + 1))
unfolding sequence_in
rest_read t m v p c last n en =
    let e : p + (n + 1) ≡ p + 1 + n = omega arith in
    let r : suc c - (n + 1) ≡ c - n = omega arith in
    let d : suc p + n ≡ p + 1 + n = omega arith in
    after_read c last n (drop (suc p) (items_in t m)) en v (p + 1) ∙ rw (drop-drop n (suc p) (items_in t m), e, r, d)

pub sequence-none : (t : Places) (m : List ℕ) (v p count : ℕ) → count ≤ 0 → sequence_in t m v p count ≡ end
unfolding sequence_in sequence_of
sequence-none t m v p zero h = refl
sequence-none t m v p (suc c) h = absurd (omega arith)

module _ (t : Places) (m : List ℕ) (v p count : ℕ) (lent : Lent t m p count) (some : 0 < count) (x : Item) (is : x ≡ item_in (item_word_at t m p)) where
  -- what is left begins with the item
  left-cons : (c : ℕ) → count ≡ suc c → sequence_in t m v p count ≡ sequence_of (suc c) v p (x ∷ take c (drop (suc p) (items_in t m)))
  unfolding sequence_in
  left-cons c e = rw (e, items-from t m p lent.places (omega arith), ← is)

  pub sequence-action : x.kind ≡ 0 → sequence_in t m v p count ≡ action x.delay.0 x.last p (sequence_in t m v (p + 1) (count - 1))
  unfolding sequence_in sequence_of
  sequence-action k =
      let e : count ≡ suc (count - 1) = omega arith in
      left-cons (count - 1) e ∙ rw (eq-eqb x.kind 0 k, sequence_of, add-one p)

  pub sequence-group : (n : ℕ) → (x.kind ≡ 0 → ⊥) → n ≡ min x.last (count - 1)
      → sequence_in t m v p count ≡ group x.delay.0 (synchrony_of x.synchrony) (error_of x.error) (body_in t m v (p + 1) n) (sequence_in t m v (p + (n + 1)) (count - (n + 1)))
  unfolding sequence_in sequence_of
  sequence-group n k en =
      let e : count ≡ suc (count - 1) = omega arith in
      let c : suc (count - 1) ≡ count = omega arith in
      left-cons (count - 1) e
      ∙ rw (ne_eqb x.kind 0 k, sequence_of)
      (ap₂ (group x.delay.0 (synchrony_of x.synchrony) (error_of x.error))
      (body-read t m v p (count - 1) x.last n en)
      (rw c at (rest_read t m v p (count - 1) x.last n en)))
