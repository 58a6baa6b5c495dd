-- Dates of events: E rises along the score, and the event found by a date is the last that has begun by it.
-- Assumes nothing.
use mathlib.Core.Path.{◌≡◌, refl}
use Prim.Native.Nat.{ℕ, zero, suc, pred, ◌+◌, ◌-◌, ◌≤◌, ◌<◌, suc-le-suc}
use mathlib.Core.Bool.{Bool, true, false}
use mathlib.Core.List.{List, [], ◌∷◌}
use native.Mathlib.Omega.{arith}
use lib.Dec.{ltb}
use lib.ListN.{length, get_or}
use borrow.Author.Tests.{ltb-true, ltb-false, le-ltb}
use Rattle.rules.specs.Score.{total, E, more, last_by}

-- ---- E(i)

total_mono : (ds : List ℕ) (i j : ℕ) → i ≤ j → total ds i ≤ total ds j
unfolding total
total_mono ds zero j h = omega arith
total_mono ds (suc i) zero h = absurd (omega arith)
total_mono [] (suc i) (suc j) h = omega arith
total_mono (d ∷ ds) (suc i) (suc j) h = omega (arith, total_mono ds i j (omega arith))

total-next : (ds : List ℕ) (k : ℕ) → k < length ds → total ds (suc k) ≡ total ds k + get_or ds k 0
unfolding total
total-next [] k h = absurd (omega arith)
total-next (d ∷ ds) zero h = omega arith
total-next (d ∷ ds) (suc k) h = omega (arith, total-next ds k (omega arith))

-- "E(i) is the sum of the durations of events 1 to i-1": of none for the first, and of one more for the next.
pub E-first : (ds : List ℕ) → E ds 1 ≡ 0
unfolding E total
E-first ds = refl

pub E-next : (ds : List ℕ) (k : ℕ) → k < length ds → E ds (suc (suc k)) ≡ E ds (suc k) + get_or ds k 0
unfolding E
E-next ds k h = total-next ds k h

pub E-mono : (ds : List ℕ) (i j : ℕ) → i ≤ j → E ds i ≤ E ds j
unfolding E
E-mono ds i j h = total_mono ds (pred i) (pred j) (omega arith)

-- ---- "the last event k with E(k) <= t"

more-le : (d : ℕ) (ds : List ℕ) (t : ℕ) → total (d ∷ ds) (more d ds t) ≤ t
unfolding total more
more-le d [] t = omega arith
more-le d (e ∷ ds) t = go (ltb t d) refl (more-le e ds (t - d))
  where
    go : (x : Bool) → ltb t d ≡ x → total (e ∷ ds) (more e ds (t - d)) ≤ t - d → total (d ∷ e ∷ ds) (more d (e ∷ ds) t) ≤ t
    go true p ih = rw (p, more) (omega arith)
    go false p ih = rw (p, more) (omega (arith, ltb-false t d p))

more-fits : (d : ℕ) (ds : List ℕ) (t : ℕ) → more d ds t ≤ length ds
unfolding more
more-fits d [] t = omega arith
more-fits d (e ∷ ds) t = go (ltb t d) refl (more-fits e ds (t - d))
  where
    go : (x : Bool) → ltb t d ≡ x → more e ds (t - d) ≤ length ds → more d (e ∷ ds) t ≤ suc (length ds)
    go true p ih = rw (p, more) (omega arith)
    go false p ih = rw (p, more) (suc-le-suc ih)

more-ge : (d : ℕ) (ds : List ℕ) (t i : ℕ) → i ≤ length ds → total (d ∷ ds) i ≤ t → i ≤ more d ds t
unfolding total more
more-ge d ds t zero f h = omega arith
more-ge d [] t (suc i) f h = omega arith
more-ge d (e ∷ ds) t (suc i) f h = rw (le-ltb t d (omega arith), more) (suc-le-suc (more-ge e ds (t - d) i (omega arith) (omega arith)))

-- It has begun.
pub last_by-le : (ds : List ℕ) (t : ℕ) → E ds (last_by ds t) ≤ t
unfolding E last_by total
last_by-le [] t = omega arith
last_by-le (d ∷ ds) t = more-le d ds t

-- It is an event of the score.
pub last_by-some : (ds : List ℕ) (t : ℕ) → 1 ≤ length ds → 1 ≤ last_by ds t
unfolding last_by
last_by-some [] t h = absurd (omega arith)
last_by-some (d ∷ ds) t h = omega arith

pub last_by-fits : (ds : List ℕ) (t : ℕ) → last_by ds t ≤ length ds
unfolding last_by
last_by-fits [] t = omega arith
last_by-fits (d ∷ ds) t = suc-le-suc (more-fits d ds t)

-- It is the last that has: no event after it has begun,
pub last_by-ge : (ds : List ℕ) (t i : ℕ) → i ≤ length ds → E ds i ≤ t → i ≤ last_by ds t
unfolding E last_by
last_by-ge ds t zero f h = omega arith
last_by-ge [] t (suc i) f h = omega arith
last_by-ge (d ∷ ds) t (suc i) f h = suc-le-suc (more-ge d ds t i (omega arith) h)

pub last_by-next : (ds : List ℕ) (t : ℕ) → last_by ds t < length ds → t < E ds (suc (last_by ds t))
last_by-next ds t h = go (ltb t (E ds (suc (last_by ds t)))) refl
  where
    go : (x : Bool) → ltb t (E ds (suc (last_by ds t))) ≡ x → t < E ds (suc (last_by ds t))
    go true p = ltb-true t _ p
    go false p = absurd (omega (arith, last_by-ge ds t (suc (last_by ds t)) h (ltb-false t _ p)))

-- and a later date never finds an earlier event.
pub last_by-mono : (ds : List ℕ) (t u : ℕ) → t ≤ u → last_by ds t ≤ last_by ds u
last_by-mono ds t u h = last_by-ge ds u (last_by ds t) (last_by-fits ds t) (omega (arith, last_by-le ds t))

-- An event that has begun, the next of which has not, is that one.
pub last_by-is : (ds : List ℕ) (t k : ℕ) → k ≤ length ds → E ds k ≤ t → (k < length ds → t < E ds (suc k)) → k ≡ last_by ds t
last_by-is ds t k f h n = go (ltb k (last_by ds t)) refl
  where
    go : (x : Bool) → ltb k (last_by ds t) ≡ x → k ≡ last_by ds t
    go true p =
        let l : k < last_by ds t = ltb-true k _ p in
        let s : k < length ds = omega (arith, last_by-fits ds t) in
        absurd (omega (arith, n s, E-mono ds (suc k) (last_by ds t) l, last_by-le ds t))
    go false p = omega (arith, ltb-false k _ p, last_by-ge ds t k f h)
