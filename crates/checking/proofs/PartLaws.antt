-- The parts told by their marks are the parts that the items have, and each takes three bytes at most.
-- A mark stands at a part where some item has it; the parts are told in their order. Assumes nothing.
use mathlib.Core.Path.{◌≡◌, refl, sym, ap, ◌∙◌}
use mathlib.Core.Bool.{Bool, true, false}
use mathlib.Core.List.{List, [], ◌∷◌, ◌++◌, append-nil, append_assoc}
use Prim.Native.Nat.{ℕ, zero, suc, ◌+◌, ◌-◌, ◌*◌, ◌/◌, ◌<◌, ◌≤◌}
use native.Mathlib.Numerals.{add-one}
use native.Mathlib.Omega.{arith}
use lib.Dec.{eqb, ltb}
use lib.ListN.{length, get_or, set, take, replicate, length-set, get_or-replicate}
use lib.Seq.{get_or-set_same, get_or-set_other}
use borrow.Author.Tests.{eqb-true, eqb-false, ltb-true, ltb-false}
use borrow.Author.Rules.{rules}
use Rattle.page.specs.declared.Item.{Item}
use Rattle.base.specs.Tests.{pick}
use Rattle.base.specs.Only.{only}
use Rattle.ascii.specs.Words.{space}
use Rattle.ascii.specs.Decimals.{most_places, digits_of, decimal}
use Rattle.ascii.specs.Text.{bytes_of}
use Rattle.ascii.specs.Laying.{Laid}
use Rattle.ascii.proofs.LayLaws.{laid-join}
use Rattle.ascii.proofs.DecimalLaws.{digits-one, digits_more}
use Rattle.contents.specs.Limits.{last_part}
use Rattle.checking.specs.Tallies.{uses, parts_in}
use Rattle.checking.specs.Checked.{listed, parts_told}
use Rattle.checking.specs.Inner.{marked, part_words, marks_told, part_count, part_room, parts_room}

-- ---- a mark stands where some item has the part

marked-at : (m : List ℕ) (is : List Item) (k : ℕ) → k < length m → get_or (marked m is) k 0 ≡ pick (uses k is) 1 (get_or m k 0)
unfolding marked uses pick
marked-at m [] k p = refl
marked-at m (i ∷ is) k p = go (eqb i.part k) refl (marked-at (set m i.part 1) is k (rw (length-set m i.part 1) p)) where
  go : (t : Bool) → eqb i.part k ≡ t → get_or (marked (set m i.part 1) is) k 0 ≡ pick (uses k is) 1 (get_or (set m i.part 1) k 0)
      → get_or (marked (set m i.part 1) is) k 0 ≡ pick (pick t true (uses k is)) 1 (get_or m k 0)
  go true e h =
      let s : i.part ≡ k = eqb-true _ _ e in
      let g : get_or (set m i.part 1) k 0 ≡ 1 = rw s (get_or-set_same m k 1 0 p) in
      h ∙ rw g (both (uses k is))
    where
      both : (b : Bool) → ◌≡◌ {A = ℕ} (pick b 1 1) 1
      both true = refl
      both false = refl
  go false e h = h ∙ ap (λ (x : ℕ). pick (uses k is) 1 x) (get_or-set_other m i.part k 1 0 (λ q. eqb-false _ _ e (sym q)))

-- ---- told one after the other

-- the parts below this number
unfoldable up_to : ℕ → List ℕ
up_to zero = []
up_to (suc k) = up_to k ++ (k ∷ [])

listed-snoc : (U : ℕ → Bool) (l : List ℕ) (x : ℕ) → listed (only U (l ++ (x ∷ []))) ≡ listed (only U l) ++ pick (U x) (space ∷ decimal x) []
unfolding listed only pick
listed-snoc U [] x = last (U x) where
  last : (b : Bool) → listed (pick b (x ∷ []) []) ≡ pick b (space ∷ decimal x) []
  last true = append-nil (space ∷ decimal x)
  last false = refl
listed-snoc U (y ∷ l) x = go (U y) (listed-snoc U l x) where
  go : (b : Bool) → listed (only U (l ++ (x ∷ []))) ≡ listed (only U l) ++ pick (U x) (space ∷ decimal x) []
      → listed (pick b (y ∷ only U (l ++ (x ∷ []))) (only U (l ++ (x ∷ [])))) ≡ listed (pick b (y ∷ only U l) (only U l)) ++ pick (U x) (space ∷ decimal x) []
  go true h = rw h (sym (append_assoc (space ∷ decimal y) (listed (only U l)) (pick (U x) (space ∷ decimal x) [])))
  go false h = h

told-by : (b : Bool) (k : ℕ) → part_words (pick b 1 0) k ≡ pick b (space ∷ decimal k) []
unfolding part_words pick
told-by true k = refl
told-by false k = refl

module _ (marks : List ℕ) (U : ℕ → Bool) (by : (j : ℕ) → j < part_count → get_or marks j 0 ≡ pick (U j) 1 0) where
  told-up : (k : ℕ) → k ≤ part_count → marks_told marks k ≡ listed (only U (up_to k))
  unfolding marks_told up_to listed only
  told-up zero p = refl
  told-up (suc k) p = rw (told-up k (omega arith), by k (omega arith), told-by (U k) k) (sym (listed-snoc U (up_to k) k))

pub marks-told : (is : List Item) → marks_told (marked (replicate part_count 0) is) part_count ≡ listed (parts_in is)
unfolding parts_in up_to
marks-told is =
    told-up (marked (replicate part_count 0) is) (λ (k : ℕ). uses k is)
    (λ j p. marked-at (replicate part_count 0) is j p ∙ ap (λ (x : ℕ). pick (uses j is) 1 x) (get_or-replicate part_count j 0 0 p))
    part_count (omega arith)

-- ---- one part

-- none has more than two digits
part-digits : (k : ℕ) → k ≤ last_part → length (decimal k) ≤ 2
unfolding decimal
part-digits k p = go (ltb k 10) refl where
  go : (t : Bool) → ltb k 10 ≡ t → length (digits_of most_places k) ≤ 2
  go true e = rw (digits-one most_places k (omega arith) (ltb-true k 10 e)) (omega arith)
  go false e =
      let l : 10 ≤ k = ltb-false k 10 e in
      rw (digits_more most_places k (omega arith) l, digits-one (most_places - 1) (k / 10) (omega arith) (omega arith)) (omega arith)

module _ (o : List ℕ) (at part mark : ℕ) where
  pub part_none : mark ≡ 0 → at + 1 + most_places ≤ length o → Laid o at (part_words mark part) o at
  unfolding part_words
  part_none e p = rw e (record { front = sym (append-nil (take at o)); others = refl; stop = omega arith; within = omega arith; size = refl })

  module _ (m n : List ℕ) (a r : ℕ) (some : mark ≡ 0 → ⊥) (front : Laid o at (space ∷ []) m a) (number : Laid m a (decimal part) n r) where
    pub part-told : Laid o at (part_words mark part) n r
    unfolding part_words
    part-told = go mark some where
      go : (k : ℕ) → (k ≡ 0 → ⊥) → Laid o at (part_words k part) n r
      go zero h = absurd (h refl)
      go (suc k) h = laid-join o m n _ _ at a r front number

    pub part-short : part ≤ last_part → r ≤ at + part_room
    part-short p =
        let s : a ≡ at + 1 = front.stop in
        let t : r ≡ a + length (decimal part) = number.stop in
        omega (arith, part-digits part p)

pub ruleset parts = (part_none, part-told, part-short, rules)

-- ---- all of them

pub marked-none : (o marks : List ℕ) (at : ℕ) → at + parts_room ≤ length o → Laid o at (marks_told marks 0) o at
unfolding marks_told
marked-none o marks at p = record { front = sym (append-nil (take at o)); others = refl; stop = omega arith; within = omega arith; size = refl }

pub marked_step : (o m n marks : List ℕ) (at a r k : ℕ) → Laid o at (marks_told marks k) m a → Laid m a (part_words (get_or marks k 0) k) n r → Laid o at (marks_told marks (k + 1)) n r
unfolding marks_told
marked_step o m n marks at a r k p q = rw add-one (laid-join o m n _ _ at a r p q)

pub marked_all : (o m marks : List ℕ) (at a k : ℕ) → k ≤ part_count → part_count ≤ k → Laid o at (marks_told marks k) m a → Laid o at (marks_told marks part_count) m a
marked_all o m marks at a k p q l = let e : k ≡ part_count = omega arith in rw e at l

pub ruleset markings = (marked-none, marked_step, marked_all, rules)

-- ---- or that there are none

some_bytes : (p : ℕ) (ps : List ℕ) → 1 ≤ length (listed (p ∷ ps))
unfolding listed
some_bytes p ps = omega arith

no-parts : (ps : List ℕ) → length (listed ps) ≡ 0 → parts_told ps ≡ bytes_of " none"
unfolding parts_told
no-parts [] e = refl
no-parts (p ∷ ps) e = absurd (omega (arith, some_bytes p ps))

some-parts : (ps : List ℕ) → (length (listed ps) ≡ 0 → ⊥) → parts_told ps ≡ listed ps
unfolding parts_told listed
some-parts [] h = absurd (h refl)
some-parts (p ∷ ps) h = refl

module _ (o m marks₀ marks : List ℕ) (is : List Item) (at a : ℕ) (zeros : marks₀ ≡ replicate part_count 0) (e : marks ≡ marked marks₀ is) (laid : Laid o at (marks_told marks part_count) m a) where
  told : Laid o at (listed (parts_in is)) m a
  told = rw (← marks-told is, ← zeros, ← e) laid

  pub parts-some : (a ≡ at → ⊥) → Laid o at (parts_told (parts_in is)) m a
  parts-some h =
      let s : a ≡ at + length (listed (parts_in is)) = told.stop in
      rw (some-parts (parts_in is) (λ z. h (omega arith))) told

  pub parts_none : (n : List ℕ) (r : ℕ) → a ≡ at → Laid m at (bytes_of " none") n r → Laid o at (parts_told (parts_in is)) n r × (r ≤ at + part_room * part_count)
  parts_none n r h l =
      let s : a ≡ at + length (listed (parts_in is)) = told.stop in
      let z : length (listed (parts_in is)) ≡ 0 = omega arith in
      let t : Laid o at (listed (parts_in is)) m at = rw h at told in
      let u : r ≡ at + 5 = l.stop in
      (rw (no-parts (parts_in is) z) (rw (empty (listed (parts_in is)) z) at (laid-join o m n _ _ at at r t l)), omega arith)
    where
      empty : (l : List ℕ) → length l ≡ 0 → l ≡ []
      empty [] q = refl
      empty (x ∷ l) q = absurd (omega arith)

pub ruleset tellings = (parts-some, parts_none, rules)
