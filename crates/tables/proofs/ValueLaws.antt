-- Raised values one behind the other are the values that they stand for, and each can be read by its place.
-- Assumes nothing.
use mathlib.Core.Path.{◌≡◌, refl, sym, ap, ◌∙◌}
use mathlib.Core.List.{List, [], ◌∷◌, ◌++◌, map, map-append, append_assoc, append-nil}
use Prim.Native.Nat.{ℕ, zero, suc, ◌+◌, ◌<◌, ◌≤◌}
use native.Mathlib.Numerals.{add-one}
use native.Mathlib.Omega.{arith}
use lib.IntN.{ℤ}
use lib.ListN.{length, take, get_or, set, length-append, length-set, get_or-map}
use lib.Seq.{length-take-le, take-suc-set, get_or-take}
use Rattle.values.specs.Integers.{whole_range}
use Rattle.values.specs.Inner.{value_of}
use Rattle.extended.specs.declared.Extent.{Extent}
use Rattle.tables.specs.Tables.{Below, no_word, word_below, values_in, Valued}
use Rattle.tables.specs.Inner.{Addable, raised_in, Added}

-- ---- below

below-append : (n : ℕ) (xs ys : List ℕ) → Below n xs → Below n ys → Below n (xs ++ ys)
below-append n [] ys no_word q = q
below-append n (x ∷ xs) ys (word_below l p) q = word_below l (below-append n xs ys p q)

below-get_d : (n : ℕ) (xs : List ℕ) (j : ℕ) → Below n xs → j < length xs → get_or xs j 0 < n
below-get_d n [] j p l = absurd (omega arith)
below-get_d n (x ∷ xs) zero (word_below q p) l = q
below-get_d n (x ∷ xs) (suc j) (word_below q p) l = below-get_d n xs j p (omega arith)

-- each of the first r words is below
pub below_at : (n : ℕ) (m : List ℕ) (r j : ℕ) → Below n (take r m) → r ≤ length m → j < r → get_or m j 0 < n
below_at n m r j p l q =
    let s : length (take r m) ≡ r = length-take-le r m l in
    rw (← (get_or-take r m j 0 q)) (below-get_d n (take r m) j p (omega arith))

-- ---- the values by their place

pub value-by-place : (m : List ℕ) (vs : List ℤ) (r j : ℕ) → map value_of (take r m) ≡ vs → j < r → value_of (get_or m j 0) ≡ get_or vs j (value_of 0)
value-by-place m vs r j e q = rw (← e, get_or-map value_of (take r m) j 0, get_or-take r m j 0 q)

module _ (f : List ℕ) (c : Extent) (m : List ℕ) (r : ℕ) (valued : Valued f c m r) (l : r ≤ length m) (j : ℕ) (q : j < r) where
  pub valued-below : get_or m j 0 < whole_range
  valued-below = below_at whole_range m r j valued.below l q

  pub valued-at : value_of (get_or m j 0) ≡ get_or (values_in f c) j (value_of 0)
  valued-at = value-by-place m (values_in f c) r j valued.values q

-- ---- one more, and one behind the other

pub value-put : (m : List ℕ) (n v : ℕ) → v < whole_range → Addable m n 1 → Added m n (value_of v ∷ []) (set m n v) (n + 1)
unfolding raised_in
value-put m n v l asked =
    let r = asked.room in
    let i : n < length m = omega arith in
    let t : take (n + 1) (set m n v) ≡ take n m ++ (v ∷ []) = rw add-one (take-suc-set m n v i) in
    record {
      values = rw (t, map-append value_of (take n m) (v ∷ []));
      below = rw t (below-append whole_range (take n m) (v ∷ []) asked.below (word_below l no_word));
      stop = refl;
      within = rw (length-set m n v) r;
      size = length-set m n v;
    }

pub added_none : (m : List ℕ) (n : ℕ) → Addable m n 0 → Added m n [] m n
added_none m n asked =
    let r = asked.room in
    record { values = sym (append-nil (raised_in m n)); below = asked.below; stop = omega arith; within = omega arith; size = refl }

pub added-join : (o m n : List ℕ) (xs ys : List ℤ) (a b r : ℕ) → Added o a xs m b → Added m b ys n r → Added o a (xs ++ ys) n r
added-join o m n xs ys a b r p q =
    let s = p.stop in
    let t = q.stop in
    record {
      values = q.values ∙ ap (λ (l : List ℤ). l ++ ys) p.values ∙ append_assoc (raised_in o a) xs ys;
      below = q.below;
      stop = omega (arith, length-append xs ys);
      within = q.within;
      size = q.size ∙ p.size;
    }

-- ---- what is added, and what is owed

-- Of these values, all but the rest stand behind the first at, up to r.
pub record Adding (old : List ℕ) (at : ℕ) (vs rest : List ℤ) (new : List ℕ) (r : ℕ) : Type 0 where
  pub values : raised_in new r ++ rest ≡ raised_in old at ++ vs
  pub below : Below whole_range (take r new)
  pub stop : r + length rest ≡ at + length vs
  pub within : r ≤ length new
  pub size : length new ≡ length old

pub adding-start : (o : List ℕ) (n : ℕ) (vs : List ℤ) → Addable o n (length vs) → Adding o n vs vs o n
adding-start o n vs asked =
    let r = asked.room in
    record { values = refl; below = asked.below; stop = refl; within = omega arith; size = refl }

pub adding-next : (o m n : List ℕ) (vs rest xs ys : List ℤ) (a b r : ℕ) → Adding o a vs rest m b → rest ≡ xs ++ ys → Added m b xs n r → Adding o a vs ys n r
adding-next o m n vs rest xs ys a b r k e q =
    let p : Adding o a vs (xs ++ ys) m b = rw e at k in
    let s = p.stop in
    let t = q.stop in
    record {
      values = ap (λ (l : List ℤ). l ++ ys) q.values ∙ append_assoc (raised_in m b) xs ys ∙ p.values;
      below = q.below;
      stop = omega (arith, length-append xs ys);
      within = q.within;
      size = q.size ∙ p.size;
    }

pub adding-end : (o m : List ℕ) (vs rest : List ℤ) (a r : ℕ) → Adding o a vs rest m r → rest ≡ [] → Added o a vs m r
adding-end o m vs rest a r k e =
    let p : Adding o a vs [] m r = rw e at k in
    let s = p.stop in
    record { values = sym (append-nil (raised_in m r)) ∙ p.values; below = p.below; stop = omega arith; within = p.within; size = p.size }

-- so many of those owed have room
pub adding-room : (o m : List ℕ) (vs rest : List ℤ) (a r n : ℕ) → Adding o a vs rest m r → Addable o a (length vs) → n ≤ length rest → Addable m r n
adding-room o m vs rest a r n k asked l =
    let s = k.stop in
    let t = k.size in
    let u = asked.room in
    record { below = k.below; room = omega arith }
