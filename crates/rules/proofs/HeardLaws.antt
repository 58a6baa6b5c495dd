-- What has become of an event: heard where it is in D, missed with the first of D after it, unsettled after all of D; and what one more heard event changes.
-- Assumes nothing.
use mathlib.Core.Path.{◌≡◌, refl, ap, ◌∙◌}
use Prim.Native.Nat.{ℕ, ◌≤◌, ◌<◌}
use mathlib.Core.Bool.{Bool, true, false}
use mathlib.Core.List.{List, [], ◌∷◌, ◌++◌, Memᴰ}
use native.Mathlib.Omega.{arith}
use lib.Dec.{ltb, eqb}
use borrow.Author.Tests.{ltb-true, ltb-false, eqb-true, eqb-false, lt-ltb, le-ltb, eq-eqb, ne_eqb}
use Rattle.rules.specs.Heard.{Taken, heard, missed, unsettled, taken}
use Rattle.rules.specs.Settled.{Below, nothing_heard, heard_before, Rising, no_more, then}

-- ---- the first of D, against i

taken-before : (d : ℕ) (D : List ℕ) (i : ℕ) → i < d → taken (d ∷ D) i ≡ missed d
unfolding taken
taken-before d D i h = rw (lt-ltb i d h, taken)

taken_at : (d : ℕ) (D : List ℕ) (i : ℕ) → i ≡ d → taken (d ∷ D) i ≡ heard
unfolding taken
taken_at d D i h = rw (le-ltb i d (omega arith), eq-eqb i d h, taken)

taken-after : (d : ℕ) (D : List ℕ) (i : ℕ) → d < i → taken (d ∷ D) i ≡ taken D i
unfolding taken
taken-after d D i h = rw (le-ltb i d (omega arith), ne_eqb i d (λ e. omega arith), taken)

data Order (i d : ℕ) : Type 0 where
  before : i < d → Order i d
  at : i ≡ d → Order i d
  after : d < i → Order i d

order : (i d : ℕ) → Order i d
order i d = go (ltb i d) (eqb i d) refl refl
  where
    go : (x y : Bool) → ltb i d ≡ x → eqb i d ≡ y → Order i d
    go true y p q = before (ltb-true i d p)
    go false true p q = at (eqb-true i d q)
    go false false p q = let n : i ≡ d → ⊥ = eqb-false i d q in after (omega (arith, ltb-false i d p))

-- ---- "D is the set of events heard."

pub heard-in : (D : List ℕ) (i : ℕ) → taken D i ≡ heard → Memᴰ i D
unfolding taken
heard-in [] i p = let z : ◌≡◌ {A = ℕ} 0 1 = cc in absurd (omega arith)
heard-in (d ∷ D) i p = go (order i d) (heard-in D i)
  where
    go : Order i d → (taken D i ≡ heard → Memᴰ i D) → Memᴰ i (d ∷ D)
    go (before h) ih = let z : ◌≡◌ {A = ℕ} 0 1 = cc (taken-before d D i h) in absurd (omega arith)
    go (at h) ih = Memᴰ.head h
    go (after h) ih = Memᴰ.tail (ih (rw (taken-after d D i h) at p))

rising-in : {b : ℕ} {D : List ℕ} {i : ℕ} → Rising b D → Memᴰ i D → b < i
rising-in no_more m = elim m [ ]
rising-in (then h r) (Memᴰ.head e) = omega arith
rising-in (then h r) (Memᴰ.tail m) = omega (arith, rising-in r m)

pub in-heard : {b : ℕ} {D : List ℕ} (i : ℕ) → Rising b D → Memᴰ i D → taken D i ≡ heard
in-heard i no_more m = elim m [ ]
in-heard i (then {d = d} {D = D} h r) (Memᴰ.head e) = taken_at d D i e
in-heard i (then {d = d} {D = D} h r) (Memᴰ.tail m) = rw (taken-after d D i (rising-in r m)) (in-heard i r m)

-- ---- "For a missed i, M(i) is the first heard event after i": it comes after i, it is heard, and none between is.

pub next-after : (D : List ℕ) (i j : ℕ) → taken D i ≡ missed j → i < j
unfolding taken
next-after [] i j p = let z : ◌≡◌ {A = ℕ} 0 1 = cc in absurd (omega arith)
next-after (d ∷ D) i j p = go (order i d) (next-after D i j)
  where
    go : Order i d → (taken D i ≡ missed j → i < j) → i < j
    go (before h) ih = let e : d ≡ j = cc (taken-before d D i h) in omega arith
    go (at h) ih = let z : ◌≡◌ {A = ℕ} 0 1 = cc (taken_at d D i h) in absurd (omega arith)
    go (after h) ih = ih (rw (taken-after d D i h) at p)

pub next-heard : (D : List ℕ) (i j : ℕ) → taken D i ≡ missed j → taken D j ≡ heard
unfolding taken
next-heard [] i j p = cc
next-heard (d ∷ D) i j p = go (order i d) (next-heard D i j)
  where
    go : Order i d → (taken D i ≡ missed j → taken D j ≡ heard) → taken (d ∷ D) j ≡ heard
    go (before h) ih = let e : j ≡ d = cc (taken-before d D i h) in taken_at d D j e
    go (at h) ih = cc (taken_at d D i h)
    go (after h) ih =
        let n : taken D i ≡ missed j = rw (taken-after d D i h) at p in
        let l : i < j = next-after D i j n in
        rw (taken-after d D j (omega arith)) (ih n)

pub next-first : (D : List ℕ) (i j k : ℕ) → taken D i ≡ missed j → i ≤ k → k < j → taken D k ≡ missed j
unfolding taken
next-first [] i j k p a b = cc
next-first (d ∷ D) i j k p a b = go (order i d) (λ q. next-first D i j k q a b)
  where
    go : Order i d → (taken D i ≡ missed j → taken D k ≡ missed j) → taken (d ∷ D) k ≡ missed j
    go (before h) ih = let e : d ≡ j = cc (taken-before d D i h) in taken-before d D k (omega arith) ∙ ap missed e
    go (at h) ih = cc (taken_at d D i h)
    go (after h) ih = rw (taken-after d D k (omega arith)) (ih (rw (taken-after d D i h) at p))

-- "without one, i yields nothing yet"
pub unsettled-above : (D : List ℕ) (i : ℕ) → taken D i ≡ unsettled → Below i D
unfolding taken
unsettled-above [] i p = nothing_heard
unsettled-above (d ∷ D) i p = go (order i d) (unsettled-above D i)
  where
    go : Order i d → (taken D i ≡ unsettled → Below i D) → Below i (d ∷ D)
    go (before h) ih = let z : ◌≡◌ {A = ℕ} 0 1 = cc (taken-before d D i h) in absurd (omega arith)
    go (at h) ih = let z : ◌≡◌ {A = ℕ} 0 1 = cc (taken_at d D i h) in absurd (omega arith)
    go (after h) ih = heard_before h (ih (rw (taken-after d D i h) at p))

pub above-unsettled : (i : ℕ) {D : List ℕ} → Below i D → taken D i ≡ unsettled
unfolding taken
above-unsettled i nothing_heard = refl
above-unsettled i (heard_before {d = d} {D = D} h b) = rw (taken-after d D i h) (above-unsettled i b)

-- ---- an event h after all of D

pub heard-below : (h i : ℕ) {D : List ℕ} → Below h D → taken D i ≡ heard → i < h
unfolding taken
heard-below h i nothing_heard p = let z : ◌≡◌ {A = ℕ} 0 1 = cc in absurd (omega arith)
heard-below h i (heard_before {d = d} {D = D} l b) p = go (order i d) (heard-below h i b)
  where
    go : Order i d → (taken D i ≡ heard → i < h) → i < h
    go (before g) ih = omega arith
    go (at g) ih = omega arith
    go (after g) ih = ih (rw (taken-after d D i g) at p)

pub next-below : {D : List ℕ} (h i j : ℕ) → Below h D → taken D i ≡ missed j → j < h
next-below {D} h i j b p = heard-below h j b (next-heard D i j p)

-- From h on, only h itself is settled.
pub settled-from : (h i : ℕ) {D : List ℕ} → Below h D → h ≤ i → taken (D ++ (h ∷ [])) i ≡ taken (h ∷ []) i
settled-from h i nothing_heard l = refl
settled-from h i (heard_before {d = d} {D = D} g b) l = rw (taken-after d (D ++ (h ∷ [])) i (omega arith)) (settled-from h i b l)

-- Hearing h settles h and, as missed with h, the events before it that were not settled; any other stays as it was.
pub data Turns (h i : ℕ) : Taken → Taken → Type 0 where
  same : {a : Taken} → Turns h i a a
  now : i ≡ h → Turns h i unsettled heard
  passed : i < h → Turns h i unsettled (missed h)

pub turns : (D : List ℕ) (h i : ℕ) → Turns h i (taken D i) (taken (D ++ (h ∷ [])) i)
unfolding taken
turns [] h i = go (order i h)
  where
    go : Order i h → Turns h i unsettled (taken (h ∷ []) i)
    go (before g) = rw (taken-before h [] i g) (passed g)
    go (at g) = rw (taken_at h [] i g) (now g)
    go (after g) = rw (taken-after h [] i g) same
turns (d ∷ D) h i = go (order i d) (turns D h i)
  where
    go : Order i d → Turns h i (taken D i) (taken (D ++ (h ∷ [])) i) → Turns h i (taken (d ∷ D) i) (taken (d ∷ (D ++ (h ∷ []))) i)
    go (before g) ih = rw (taken-before d D i g, taken-before d (D ++ (h ∷ [])) i g) same
    go (at g) ih = rw (taken_at d D i g, taken_at d (D ++ (h ∷ [])) i g) same
    go (after g) ih = rw (taken-after d D i g, taken-after d (D ++ (h ∷ [])) i g) ih

-- ---- the list of the events heard, one longer

pub below_up : (h g : ℕ) → h ≤ g → {D : List ℕ} → Below h D → Below g D
below_up h g l nothing_heard = nothing_heard
below_up h g l (heard_before {d = d} k b) = heard_before {d = d} (omega arith) (below_up h g l b)

pub below-one-more : (h g : ℕ) → h < g → {D : List ℕ} → Below h D → Below g (D ++ (h ∷ []))
below-one-more h g l nothing_heard = heard_before l nothing_heard
below-one-more h g l (heard_before {d = d} k b) = heard_before {d = d} (omega arith) (below-one-more h g l b)

pub rising-one-more : (h : ℕ) {b : ℕ} {D : List ℕ} → b < h → Below h D → Rising b D → Rising b (D ++ (h ∷ []))
rising-one-more h l nothing_heard no_more = then l no_more
rising-one-more h l (heard_before g b) (then k r) = then k (rising-one-more h g b r)
