-- 'Own part', of the item table: in a table that stands as an accepted file's does, the items of a part at an event are one run, so that striking the other parts'
-- items out strikes out their entries and moves no other's. By induction on the runs. Assumes nothing.
use mathlib.Core.Path.{◌≡◌, refl, ap, ap₂, sym, ◌∙◌}
use Prim.Native.Nat.{ℕ, zero, suc, ◌+◌, ◌≤◌, ◌<◌}
use mathlib.Core.Bool.{Bool, true, false}
use mathlib.Core.List.{List, [], ◌∷◌, ◌++◌}
use native.Mathlib.Omega.{arith}
use native.Mathlib.Nat.{le_refl}
use lib.Dec.{eqb}
use lib.ListN.{length, take, drop, length-append, length-take, length-drop, take-append-drop}
use lib.Seq.{take_at, drop_at}
use borrow.Author.Tests.{eqb-true, eqb-false, eq-eqb, ne_eqb}
use Rattle.page.specs.declared.Item.{Item}
use Rattle.base.specs.Tests.{pick}
use Rattle.rules.specs.Score.{Seq}
use Rattle.rules.specs.Rules.{Reading}
use Rattle.rules.specs.Page.{levels, sequence_of, Entry, goes_on, run_length, entries_of, entries, cues}
use Rattle.base.specs.Only.{only}
use Rattle.rules.specs.Parts.{sounding_entries, sounding_items, sounding_cues, placeless, Standing, no_items, within_group, next_event, same_event}
use Rattle.rules.proofs.OwnPart.{only-append, own-part}
use Rattle.rules.proofs.Placeless.{bare_entries, same-but-places, sequence-bare}

-- ---- which items go on with the run of part p at event i

goes-within : (i p : ℕ) (x : Item) → x.event ≡ 0 → goes_on i p x ≡ true
unfolding goes_on pick
goes-within i p x e = rw (eq-eqb x.event 0 e, pick)

goes_same : (i p : ℕ) (x : Item) → x.event ≡ i → x.part ≡ p → goes_on i p x ≡ true
unfolding goes_on pick
goes_same i p x e f = rw (eq-eqb x.event i e, eq-eqb x.part p f, pick) (go (eqb x.event 0))
  where
    go : (t : Bool) → pick t true true ≡ true
    go true = refl
    go false = refl

-- A later key: a later event, or the same event and a later part.
pub data After (i p j q : ℕ) : Type 0 where
  later_event : i < j → After i p j q
  later_part : i ≡ j → p < q → After i p j q

goes_after : (i p : ℕ) (x : Item) → 1 ≤ x.event → After i p x.event x.part → goes_on i p x ≡ false
unfolding goes_on pick
goes_after i p x h (later_event l) = rw (ne_eqb x.event 0 (λ e. omega arith), ne_eqb x.event i (λ e. omega arith), pick)
goes_after i p x h (later_part e l) = rw (ne_eqb x.event 0 (λ z. omega arith), eq-eqb x.event i (sym e), ne_eqb x.part p (λ z. omega arith), pick)

-- Each item is of part p.
data AllOf (p : ℕ) : List Item → Type 0 where
  none : AllOf p []
  more : {x : Item} {is : List Item} → x.part ≡ p → AllOf p is → AllOf p (x ∷ is)

-- What follows a run of part p at event i: nothing, or a top item with a later key.
data Next (i p : ℕ) : List Item → Type 0 where
  over : Next i p []
  top : {x : Item} {is : List Item} → 1 ≤ x.event → After i p x.event x.part → Standing x.event x.part is → Next i p (x ∷ is)

record Run (i p : ℕ) (is : List Item) : Type 0 where
  own : AllOf p (take (run_length i p is) is)
  next : Next i p (drop (run_length i p is) is)
  fits : run_length i p is ≤ length is

run_more : (i p : ℕ) (x : Item) (is : List Item) → goes_on i p x ≡ true → x.part ≡ p → Run i p is → Run i p (x ∷ is)
unfolding run_length pick
run_more i p x is g e r =
    let k : run_length i p (x ∷ is) ≡ suc (run_length i p is) = rw (g, pick) in
    record { own = rw k (more e r.own); next = rw k r.next; fits = rw k (omega (arith, r.fits)) }

run-over : (i p : ℕ) (x : Item) (is : List Item) → 1 ≤ x.event → After i p x.event x.part → Standing x.event x.part is → Run i p (x ∷ is)
unfolding run_length pick
run-over i p x is h a s =
    let k : run_length i p (x ∷ is) ≡ 0 = rw (goes_after i p x h a, pick) in
    record { own = rw k none; next = rw k (top h a s); fits = rw k (omega arith) }

run_of : {i p : ℕ} {is : List Item} → Standing i p is → 1 ≤ i → Run i p is
unfolding run_length
run_of no_items h = record { own = none; next = over; fits = omega arith }
run_of {i} {p} (within_group {x = x} {is = is} g e f s) h = run_more i p x is (goes-within i p x e) f (run_of s h)
run_of {i} {p} (next_event {x = x} {is = is} l s) h = run-over i p x is (omega arith) (later_event l) s
run_of {i} {p} (same_event {x = x} {is = is} g e l s) h = go (eqb x.part p) refl (λ (z : 1 ≤ x.event). run_of s z)
  where
    go : (t : Bool) → eqb x.part p ≡ t → (1 ≤ x.event → Run x.event x.part is) → Run i p (x ∷ is)
    go true q ih = let f : x.part ≡ p = eqb-true x.part p q in run_more i p x is (goes_same i p x e f) f (rw (e, f) at (ih (omega arith)))
    go false q ih = let n : x.part ≡ p → ⊥ = eqb-false x.part p q in run-over i p x is (omega arith) (later_part (sym e) (omega arith)) s

-- ---- items struck out

after_then : {i p j q k r : ℕ} → After i p j q → After j q k r → After i p k r
after_then (later_event l) (later_event m) = later_event (omega arith)
after_then (later_event l) (later_part e m) = later_event (omega arith)
after_then (later_part e l) (later_event m) = later_event (omega arith)
after_then (later_part e l) (later_part f m) = later_part (omega arith) (omega arith)

after_same : {i p j q r : ℕ} (k : ℕ) → After i p j q → k ≡ j → q ≤ r → After i p k r
after_same k (later_event l) e m = later_event (omega arith)
after_same k (later_part f l) e m = later_part (omega arith) (omega arith)

module _ (S : ℕ → Bool) where
  keep-item : (x : Item) (is : List Item) → S x.part ≡ true → sounding_items S (x ∷ is) ≡ x ∷ sounding_items S is
  unfolding only pick
  keep-item x is h = rw (h, pick)

  strike-item : (x : Item) (is : List Item) → S x.part ≡ false → sounding_items S (x ∷ is) ≡ sounding_items S is
  unfolding only pick
  strike-item x is h = rw (h, pick)

  keep_all : {p : ℕ} {is : List Item} → S p ≡ true → AllOf p is → sounding_items S is ≡ is
  unfolding only
  keep_all h none = refl
  keep_all h (more {x = x} {is = is} e a) = keep-item x is (ap S e ∙ h) ∙ ap (λ (l : List Item). x ∷ l) (keep_all h a)

  strike-all : {p : ℕ} {is : List Item} → S p ≡ false → AllOf p is → sounding_items S is ≡ []
  unfolding only
  strike-all h none = refl
  strike-all h (more {x = x} {is = is} e a) = strike-item x is (ap S e ∙ h) ∙ strike-all h a

  -- The run ends where it did: what is left behind it begins with a later key.
  run_ends : (i p : ℕ) (x : Item) (is : List Item) → 1 ≤ x.event → After i p x.event x.part → (S x.part ≡ false → run_length i p (sounding_items S is) ≡ 0) →
      run_length i p (sounding_items S (x ∷ is)) ≡ 0
  unfolding run_length pick
  run_ends i p x is h a ih = go (S x.part) refl
    where
      go : (t : Bool) → S x.part ≡ t → run_length i p (sounding_items S (x ∷ is)) ≡ 0
      go true e = rw (keep-item x is e, goes_after i p x h a, pick)
      go false e = rw (strike-item x is e) (ih e)

  run_past : {i p j q : ℕ} {is : List Item} → Standing j q is → After i p j q → S q ≡ false → run_length i p (sounding_items S is) ≡ 0
  unfolding run_length only
  run_past no_items a h = refl
  run_past (within_group {x = x} {is = is} g e f s) a h = rw (strike-item x is (ap S f ∙ h)) (run_past s a h)
  run_past {i} {p} (next_event {x = x} {is = is} l s) a h =
      let b : After i p x.event x.part = after_then a (later_event l) in run_ends i p x is (omega arith) b (run_past s b)
  run_past {i} {p} (same_event {x = x} {is = is} g e l s) a h =
      let b : After i p x.event x.part = after_same x.event a e l in run_ends i p x is (omega arith) b (run_past s b)

  run-next : {i p : ℕ} {is : List Item} → Next i p is → run_length i p (sounding_items S is) ≡ 0
  unfolding run_length only
  run-next over = refl
  run-next {i} {p} (top {x = x} {is = is} h a s) = run_ends i p x is h a (run_past s a)

-- ---- the entries of the table that is left

run-again : (i p : ℕ) (is rest : List Item) → run_length i p rest ≡ 0 → run_length i p (take (run_length i p is) is ++ rest) ≡ run_length i p is
unfolding run_length pick
run-again i p [] rest h = h
run-again i p (x ∷ is) rest h = go (goes_on i p x) refl (run-again i p is rest h)
  where
    go : (t : Bool) → goes_on i p x ≡ t → run_length i p (take (run_length i p is) is ++ rest) ≡ run_length i p is →
        run_length i p (take (pick t (suc (run_length i p is)) 0) (x ∷ is) ++ rest) ≡ pick t (suc (run_length i p is)) 0
    go true e ih = rw (e, pick, ih)
    go false e ih = h

-- The entry of a run of k + 1 items, at the place a.
unfoldable entry_of : ℕ → Item → List Item → Entry
entry_of a x l = record { event = x.event; part = x.part; body = sequence_of (suc (length l)) levels a (x ∷ l) }

entries-are : (n a : ℕ) (x : Item) (l rest : List Item) → run_length x.event x.part (l ++ rest) ≡ length l →
    entries_of (suc n) a (x ∷ (l ++ rest)) ≡ entry_of a x l ∷ entries_of n (a + 1 + length l) rest
unfolding entries_of entry_of
entries-are n a x l rest e = rw (e, take_at l rest (length l) refl, drop_at l rest (length l) refl)

entry-bare : (a b : ℕ) (x : Item) (l : List Item) (es fs : List Entry) → bare_entries es ≡ bare_entries fs →
    bare_entries (entry_of a x l ∷ es) ≡ bare_entries (entry_of b x l ∷ fs)
unfolding bare_entries entry_of
entry-bare a b x l es fs e =
    ap₂ {C = List Entry} (λ (z : Seq) (r : List Entry). record { event = x.event; part = x.part; body = z } ∷ r)
    (sequence-bare (suc (length l)) levels a b (x ∷ l)) e

module _ (S : ℕ → Bool) where
  keep-entry : (e : Entry) (es : List Entry) → S e.part ≡ true → sounding_entries S (e ∷ es) ≡ e ∷ sounding_entries S es
  unfolding only pick
  keep-entry e es h = rw (h, pick)

  strike-entry : (e : Entry) (es : List Entry) → S e.part ≡ false → sounding_entries S (e ∷ es) ≡ sounding_entries S es
  unfolding only pick
  strike-entry e es h = rw (h, pick)

  -- The table and the page with the other parts struck out are alike but for the places.
  abbrev Alike : (n m a b : ℕ) → List Item → Type 0
  Alike n m a b is = bare_entries (entries_of n a (sounding_items S is)) ≡ bare_entries (sounding_entries S (entries_of m b is))

  abbrev Rest : (m : ℕ) → List Item → Type 0
  Rest m rest = (n a b : ℕ) → length (sounding_items S rest) ≤ n → Alike n m a b rest

  module _ (x : Item) (l rest : List Item) (own : AllOf x.part l) (whole : run_length x.event x.part (l ++ rest) ≡ length l) where
    alike-out : (n m a b : ℕ) → S x.part ≡ false → Rest m rest → length (sounding_items S (x ∷ (l ++ rest))) ≤ n → Alike n (suc m) a b (x ∷ (l ++ rest))
    unfolding entry_of
    alike-out n m a b h ih f =
        let q : sounding_items S (x ∷ (l ++ rest)) ≡ sounding_items S rest =
        strike-item S x (l ++ rest) h ∙ (only-append _ l rest ∙ ap (λ (z : List Item). z ++ sounding_items S rest) (strike-all S h own)) in
        rw (q, entries-are m b x l rest whole, strike-entry (entry_of b x l) (entries_of m (b + 1 + length l) rest) h) (ih n a (b + 1 + length l) (rw q at f))

    alike-in : (n m a b : ℕ) → S x.part ≡ true → run_length x.event x.part (l ++ sounding_items S rest) ≡ length l → Rest m rest →
        length (sounding_items S (x ∷ (l ++ rest))) ≤ n → Alike n (suc m) a b (x ∷ (l ++ rest))
    unfolding entry_of
    alike-in n m a b h again ih f =
        let q : sounding_items S (x ∷ (l ++ rest)) ≡ x ∷ (l ++ sounding_items S rest) =
        keep-item S x (l ++ rest) h
        ∙ ap (λ (z : List Item). x ∷ z) (only-append _ l rest ∙ ap (λ (z : List Item). z ++ sounding_items S rest) (keep_all S h own)) in
        rw (q, entries-are m b x l rest whole, keep-entry (entry_of b x l) (entries_of m (b + 1 + length l) rest) h) (go n (rw q at f))
      where
        go : (n : ℕ) → suc (length (l ++ sounding_items S rest)) ≤ n →
            bare_entries (entries_of n a (x ∷ (l ++ sounding_items S rest))) ≡ bare_entries (entry_of b x l ∷ sounding_entries S (entries_of m (b + 1 + length l) rest))
        go zero g = absurd (omega arith)
        go (suc n) g =
            rw (entries-are n a x l (sounding_items S rest) again)
            (entry-bare a b x l _ _ (ih n (a + 1 + length l) (b + 1 + length l) (omega (arith, length-append l (sounding_items S rest)))))

  alike-run : (n m a b : ℕ) (x : Item) (is : List Item) → Run x.event x.part is → Rest m (drop (run_length x.event x.part is) is) →
      length (sounding_items S (x ∷ is)) ≤ n → Alike n (suc m) a b (x ∷ is)
  alike-run n m a b x is r ih f = rw split at (go (S x.part) refl)
    where
      k : ℕ
      k = run_length x.event x.part is

      split : take k is ++ drop k is ≡ is
      split = take-append-drop k is

      long : length (take k is) ≡ k
      long = length-take k is ∙ omega (arith, r.fits)

      whole : run_length x.event x.part (take k is ++ drop k is) ≡ length (take k is)
      whole = rw split (sym long)

      again : run_length x.event x.part (take k is ++ sounding_items S (drop k is)) ≡ length (take k is)
      again = run-again x.event x.part is (sounding_items S (drop k is)) (run-next S r.next) ∙ sym long

      few : length (sounding_items S (x ∷ (take k is ++ drop k is))) ≤ n
      few = rw split f

      go : (t : Bool) → S x.part ≡ t → Alike n (suc m) a b (x ∷ (take k is ++ drop k is))
      go true h = alike-in x (take k is) (drop k is) r.own whole n m a b h again ih few
      go false h = alike-out x (take k is) (drop k is) r.own whole n m a b h ih few

  entries_none : (n a : ℕ) → entries_of n a [] ≡ []
  unfolding entries_of
  entries_none zero a = refl
  entries_none (suc n) a = refl

  alike-none : (m : ℕ) → Rest m []
  unfolding only
  alike-none m n a b f = rw (entries_none n a, entries_none m b)

  alike : (m : ℕ) {i p : ℕ} {is : List Item} → Next i p is → length is ≤ m → Rest m is
  alike zero over h = alike-none 0
  alike zero (top g c s) h = absurd (omega arith)
  alike (suc m) over h = alike-none (suc m)
  alike (suc m) (top {x = x} {is = is} g c s) h =
      let r = run_of s g in
      λ n a b. alike-run n m a b x is r (alike m r.next (omega (arith, length-drop (run_length x.event x.part is) is)))

  first-item : {is : List Item} {i p : ℕ} → Standing i p is → i ≡ 0 → Next i p is
  first-item no_items e = over
  first-item (within_group g f q s) e = absurd (omega arith)
  first-item (next_event {x = x} l s) e = top {x = x} (omega arith) (later_event l) s
  first-item (same_event g f l s) e = absurd (omega arith)

  -- An accepted table.
  module _ (is : List Item) (s : Standing 0 0 is) where
    pub own-entries : bare_entries (entries (sounding_items S is)) ≡ bare_entries (sounding_entries S (entries is))
    unfolding entries
    own-entries = alike (length is) (first-item s refl) (le_refl (length is)) (length (sounding_items S is)) 0 0 (le_refl _)

    -- The cues of the sounding parts are those of the table with every other part's items struck out, but for the page places.
    pub own-items : (R : Reading) → placeless (cues R (entries (sounding_items S is))) ≡ placeless (sounding_cues S (cues R (entries is)))
    own-items R = same-but-places R _ _ own-entries ∙ ap placeless (own-part S R (entries is))

  -- Two accepted tables with the same items for the sounding parts.
  pub same-own-items : (R : Reading) (is ks : List Item) → Standing 0 0 is → Standing 0 0 ks → sounding_items S is ≡ sounding_items S ks →
      placeless (sounding_cues S (cues R (entries is))) ≡ placeless (sounding_cues S (cues R (entries ks)))
  same-own-items R is ks s t e = sym (own-items is s R) ∙ (ap (λ (l : List Item). placeless (cues R (entries l))) e ∙ own-items ks t R)
