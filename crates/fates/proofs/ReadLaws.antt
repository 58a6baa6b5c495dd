-- Reading a word: what stands before the outcomes in the words is what the reading of the rules has, and bounds on it.
-- Assumes nothing.
use mathlib.Core.Path.{◌≡◌}
use mathlib.Core.List.{List}
use Prim.Native.Nat.{ℕ, ◌+◌, ◌%◌, ◌≤◌}
use native.Mathlib.Omega.{arith}
use lib.ListN.{length, get_or}
use lib.Seq.{get_or-take}
use borrow.Author.Tests.{eq-eqb, ne_eqb}
use borrow.Author.Rules.{rules}
use Rattle.base.specs.Tests.{pick}
use Rattle.rules.specs.declared.Taken.{Taken}
use Rattle.rules.specs.declared.Taken.TheVariants.{Heard as heard, Missed as missed, Unsettled as unsettled}
use Rattle.fates.specs.declared.Places.{Places}
use Rattle.fates.specs.Fields.{start_in, taken_in}
use Rattle.fates.specs.Places.{PlacesFit, start_at, became_in, reading_in}
use Rattle.fates.specs.Fates.{next_of}

module _ (t : Places) (m : List ℕ) (k : ℕ) (places : PlacesFit t (length m)) (few : k ≤ 256) where
  pub start-read : get_or m (t.starts + k) 0 % 2147483648 ≡ (reading_in t m).start k
  unfolding reading_in start_at start_in
  start-read = rw (get_or-take t.outcomes m (t.starts + k) 0 (omega arith))

  became : (a : Taken) → a ≡ taken_in k (get_or m (t.taken + k) 0) → a ≡ (reading_in t m).became k
  unfolding reading_in became_in
  became a e = rw (get_or-take t.outcomes m (t.taken + k) 0 (omega arith)) e

  pub became-unsettled : get_or m (t.taken + k) 0 % 257 ≡ 0 → unsettled ≡ (reading_in t m).became k
  unfolding taken_in pick
  became-unsettled z = became unsettled (rw (eq-eqb _ 0 z))

  module _ (some : get_or m (t.taken + k) 0 % 257 ≡ 0 → ⊥) where
    pub became-heard : get_or m (t.taken + k) 0 % 257 ≡ k → heard ≡ (reading_in t m).became k
    unfolding taken_in pick
    became-heard e = became heard (rw (ne_eqb _ 0 some, eq-eqb _ k e))

    pub became-missed : (get_or m (t.taken + k) 0 % 257 ≡ k → ⊥) → missed (get_or m (t.taken + k) 0 % 257) ≡ (reading_in t m).became k
    unfolding taken_in pick
    became-missed h = became _ (rw (ne_eqb _ 0 some, ne_eqb _ k h))

pub next-of-unsettled : next_of unsettled ≤ 256
unfolding next_of
next-of-unsettled = omega arith

pub next-of-heard : next_of heard ≤ 256
unfolding next_of
next-of-heard = omega arith

pub next-of-missed : (w : ℕ) → next_of (missed (w % 257)) ≤ 256
unfolding next_of
next-of-missed w = omega arith

pub next-of : (a : Taken) (j : ℕ) → a ≡ missed j → next_of a ≤ 256 → j ≤ 256
unfolding next_of
next-of a j e h = rw e at h

pub ruleset reads = (start-read, became-unsettled, became-heard, became-missed, next-of-unsettled, next-of-heard, next-of-missed, rules)
