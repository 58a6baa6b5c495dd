-- What a run comes to, in the code's own terms, and its line, laid one part behind the other.
-- Assumes nothing.
use mathlib.Core.Path.{◌≡◌, refl}
use mathlib.Core.Bool.{Bool, true, false}
use mathlib.Core.List.{List, [], ◌∷◌, ◌++◌}
use Prim.Native.Nat.{ℕ, zero, suc, ◌+◌, ◌<◌, ◌≤◌}
use native.Mathlib.Omega.{arith}
use lib.Dec.{ltb}
use borrow.Author.Tests.{lt-ltb, le-ltb, ltb-true, ltb-false}
use borrow.Author.Rules.{rules}
use Rattle.std.specs.Prelude.{min}
use Rattle.base.specs.Tests.{pick, every}
use Rattle.ascii.specs.Words.{newline}
use Rattle.ascii.specs.Decimals.{decimal}
use Rattle.ascii.specs.Text.{bytes_of}
use Rattle.ascii.specs.Laying.{Laid}
use Rattle.ascii.proofs.LayLaws.{laid-join}
use Rattle.streams.specs.declared.ending.Ending.TheVariants.{Done, Refused, Failed}
use Rattle.checking.specs.declared.run.Tally.{Tally}
use Rattle.checking.specs.declared.run.Came.{Came}
use Rattle.checking.specs.declared.run.Came.TheVariants as came
use Rattle.checking.specs.Counted.{counted}
use Rattle.checking.specs.Tallied.{ending_by, ending_of, most_files, one_more, tallied, files, worth_telling, tally_told, tally_line}

-- ---- how it ends

by-unread : (r u : ℕ) → 0 < u → Failed ≡ ending_by r u
unfolding ending_by
by-unread r zero p = absurd (omega arith)
by-unread zero (suc u) p = refl
by-unread (suc r) (suc u) p = refl

by-refused : (r u : ℕ) → u ≤ 0 → 0 < r → Refused ≡ ending_by r u
unfolding ending_by
by-refused zero u p q = absurd (omega arith)
by-refused (suc r) zero p q = refl
by-refused (suc r) (suc u) p q = absurd (omega arith)

by-none : (r u : ℕ) → u ≤ 0 → r ≤ 0 → Done ≡ ending_by r u
unfolding ending_by
by-none zero zero p q = refl
by-none (suc r) u p q = absurd (omega arith)
by-none zero (suc u) p q = absurd (omega arith)

module _ (t : Tally) where
  pub ends-failed : 0 < t.unread → Failed ≡ ending_of t
  unfolding ending_of
  ends-failed p = by-unread t.refused t.unread p

  pub ends-refused : t.unread ≤ 0 → 0 < t.refused → Refused ≡ ending_of t
  unfolding ending_of
  ends-refused p q = by-refused t.refused t.unread p q

  pub ends-done : t.unread ≤ 0 → t.refused ≤ 0 → Done ≡ ending_of t
  unfolding ending_of
  ends-done p q = by-none t.refused t.unread p q

pub ruleset ends = (ends-failed, ends-refused, ends-done, rules)

-- ---- a number and what it counts

pub lay-count : (o m n what : List ℕ) (x at a r : ℕ) → Laid o at (decimal x) m a → Laid m a what n r → Laid o at (decimal x ++ what) n r
lay-count o m n what x at a r p q = laid-join o m n _ _ at a r p q

pub ruleset counting = (lay-count, rules)

-- ---- one file more

pub capped : (n k : ℕ) → n ≤ most_files → k ≡ min (n + 1) most_files → k ≡ one_more n
unfolding one_more pick
capped n k p e = go (ltb n most_files) refl where
  go : (t : Bool) → ltb n most_files ≡ t → k ≡ one_more n
  go true q = let l = ltb-true n most_files q in rw q (omega arith)
  go false q = let l = ltb-false n most_files q in rw q (omega arith)

module _ (t : Tally) (c : Came) (k : ℕ) where
  pub one-accepted : c ≡ came.Accepted → k ≡ one_more t.accepted → record { accepted = k; refused = t.refused; unread = t.unread } ≡ tallied t c
  unfolding tallied
  one-accepted e p = rw (e, p)

  pub one-refused : c ≡ came.Refused → k ≡ one_more t.refused → record { accepted = t.accepted; refused = k; unread = t.unread } ≡ tallied t c
  unfolding tallied
  one-refused e p = rw (e, p)

  pub one-unread : c ≡ came.Unread → k ≡ one_more t.unread → record { accepted = t.accepted; refused = t.refused; unread = k } ≡ tallied t c
  unfolding tallied
  one-unread e p = rw (e, p)

pub ruleset tallies = (one-accepted, one-refused, one-unread, capped, rules)

-- ---- whether the sum is told

every_one : (b : Bool) → b ≡ every (b ∷ [])
unfolding every
every_one true = refl
every_one false = refl

module _ (t : Tally) where
  pub not-told : t.refused + t.unread < 1 → false ≡ worth_telling t
  unfolding worth_telling every
  not-told p = rw (le-ltb 0 (t.refused + t.unread) (omega arith))

  pub told-if : (n : ℕ) → 1 ≤ t.refused + t.unread → n ≡ files t → ltb 1 n ≡ worth_telling t
  unfolding worth_telling every
  told-if n p e = rw (lt-ltb 0 (t.refused + t.unread) (omega arith), e) (every_one (ltb 1 (files t)))

pub ruleset telling = (not-told, told-if, rules)

-- ---- the line

module _ {o m₁ m₂ m₃ n : List ℕ} {at a b c r k x y z : ℕ} (t : Tally) where
  pub lay-tally : k ≡ files t → x ≡ t.accepted → y ≡ t.refused → z ≡ t.unread → Laid o at (counted k " files: ") m₁ a → Laid m₁ a (counted x " accepted, ") m₂ b → Laid m₂ b (counted y " refused, ") m₃ c
      → Laid m₃ c (counted z " can't be read") n r → Laid o at (tally_told t) n r
  unfolding tally_told
  lay-tally e f g h p q s u = rw (← e, ← f, ← g, ← h) (laid-join o m₁ n _ _ at a r p (laid-join m₁ m₂ n _ _ a b r q (laid-join m₂ m₃ n _ _ b c r s u)))

module _ (o m₁ m₂ n : List ℕ) (a b r : ℕ) (t : Tally) where
  pub lay-line : Laid o 0 (bytes_of "bin/poolmirror: ") m₁ a → Laid m₁ a (tally_told t) m₂ b → Laid m₂ b (newline ∷ []) n r → Laid o 0 (tally_line t) n r
  unfolding tally_line
  lay-line p q s = laid-join o m₁ n _ _ 0 a r p (laid-join m₁ m₂ n _ _ a b r q s)

pub ruleset lined = (lay-line, rules)
