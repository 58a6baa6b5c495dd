-- Where the words of the starts hold E of some durations, the bisection finds "the last event k with E(k) <= t".
-- It halves a span of events that holds the last one that begins by the date. Assumes nothing.
use mathlib.Core.Path.{◌≡◌, refl}
use mathlib.Core.Bool.{Bool, true, false}
use mathlib.Core.List.{List}
use Prim.Native.Nat.{ℕ, zero, suc, ◌+◌, ◌-◌, ◌/◌, ◌^◌, ◌≤◌, ◌<◌}
use native.Mathlib.Omega.{arith}
use native.Mathlib.Nat.{two-pow-succ}
use lib.Dec.{leb}
use lib.ListN.{length}
use borrow.Author.Tests.{leb-true, leb-false}
use Rattle.rules.specs.Score.{total, E, last_by}
use Rattle.rules.proofs.Dates.{last_by-is}
use Rattle.fates.specs.declared.Places.{Places}
use Rattle.fates.specs.Places.{start_at, halved, last_in}

-- k is the last event that begins by the date d
record Last (ds : List ℕ) (d k : ℕ) : Type 0 where
  within : k ≤ length ds
  begun : E ds k ≤ d
  next : k < length ds → d < E ds (suc k)

-- one of the events from lo on, size of them, is the last by the date
record Narrowed (ds : List ℕ) (d lo size : ℕ) : Type 0 where
  some : 1 ≤ lo
  left : 1 ≤ size
  within : lo + size ≤ suc (length ds)
  begun : E ds lo ≤ d
  next : lo + size ≤ length ds → d < E ds (lo + size)

some-between : (ds : List ℕ) (d lo n : ℕ) → E ds lo ≤ d → d < E ds (lo + n) → 1 ≤ n
some-between ds d lo zero a b =
    let e : lo + 0 ≡ lo = omega arith in
    absurd (omega (arith, rw e at b))
some-between ds d lo (suc n) a b = omega arith

module _ (ds : List ℕ) (start : ℕ → ℕ) (d : ℕ) (is : (k : ℕ) → 1 ≤ k → k ≤ length ds → start k ≡ E ds k) where
  halved-last : (n lo size : ℕ) → size ≤ 2 ^ n → Narrowed ds d lo size → Last ds d (halved n start lo size d)
  unfolding halved
  halved-last zero lo size h a =
      let z : lo + size ≡ suc lo = omega arith in
      record { within = omega arith; begun = a.begun; next = λ k. rw z at (a.next (omega arith)) }
  halved-last (suc n) lo size h a =
      go (leb (start (lo + size / 2)) d) refl (halved-last n (lo + size / 2) (size - size / 2) (omega (arith, two-pow-succ n))) (halved-last n lo (size / 2) (omega (arith, two-pow-succ n)))
    where
      go : (x : Bool) → leb (start (lo + size / 2)) d ≡ x
          → (Narrowed ds d (lo + size / 2) (size - size / 2) → Last ds d (halved n start (lo + size / 2) (size - size / 2) d))
          → (Narrowed ds d lo (size / 2) → Last ds d (halved n start lo (size / 2) d))
          → Last ds d (halved (suc n) start lo size d)
      go true p later earlier =
          let e : lo + size / 2 + (size - size / 2) ≡ lo + size = omega arith in
          rw (p, halved)
          (later
          record {
            some = omega arith;
            left = omega arith;
            within = omega arith;
            begun = omega (arith, leb-true _ d p, is (lo + size / 2) (omega arith) (omega arith));
            next = λ k. rw e (a.next (rw e at k));
          })
      go false p later earlier =
          let s : d < start (lo + size / 2) = leb-false _ d p in
          let q : d < E ds (lo + size / 2) = omega (arith, is (lo + size / 2) (omega arith) (omega arith)) in
          rw (p, halved)
          (earlier
          record {
            some = a.some;
            left = some-between ds d lo (size / 2) a.begun q;
            within = omega arith;
            begun = a.begun;
            next = λ k. q;
          })

pub last-in : (t : Places) (m ds : List ℕ) (d : ℕ) → length ds ≡ t.events → 1 ≤ t.events → t.events ≤ 256 → ((k : ℕ) → 1 ≤ k → k ≤ length ds → start_at t m k ≡ E ds k)
    → last_in t m d ≡ last_by ds d
unfolding last_in E total
last-in t m ds d many some few is =
    let l =
    halved-last ds (start_at t m) d is 8 1 t.events (omega arith)
    record { some = omega arith; left = some; within = omega arith; begun = omega arith; next = λ k. absurd (omega arith) } in
    last_by-is ds d (last_in t m d) l.within l.begun l.next
