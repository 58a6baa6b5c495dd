-- The call, step by step: the room, the score's own faults, and what is left to answer.
-- Assumes nothing.
use mathlib.Core.Path.{◌≡◌, refl}
use mathlib.Core.List.{List}
use Prim.Native.Nat.{ℕ, ◌<◌, ◌≤◌}
use lib.ListN.{length}
use borrow.Author.Tests.{le-leb, lt-leb}
use borrow.Author.Rules.{rules}
use Rattle.std.specs.Prelude.{Result, Ok, Err}
use Rattle.base.specs.Tests.{pick}
use Rattle.base.specs.Checks.{fine}
use Rattle.contents.specs.Limits.{longest_score}
use Rattle.extended.specs.Right.{extended_right}
use Rattle.folding.specs.Answers.{folding_of}
use Rattle.folding.proofs.AnswerLaws.{told-right, told-wrong}
use Rattle.unfolding.specs.declared.UnfoldError.{UnfoldError}
use Rattle.unfolding.specs.declared.UnfoldError.TheVariants.{NoRoom, BadExtended}
use Rattle.unfolding.specs.Answers.{answered, unfold_answer, unfolded_file, room_left}
use Rattle.unfolder.specs.Inner.{Answers}

module _ (f m : List ℕ) where
  pub call-short : length m < longest_score → Err NoRoom ≡ unfold_answer (length m) f
  unfolding unfold_answer pick
  call-short p = rw (lt-leb longest_score (length m) p)

  pub short-left : m ≡ room_left (Err NoRoom) (unfolded_file f) m
  unfolding room_left
  short-left = refl

  module _ (v : Result (Unit {0}) ℕ) (found : v ≡ folding_of (extended_right f)) where
    pub call-right : v ≡ Ok tt → extended_right f ≡ fine
    call-right e = told-right v (extended_right f) found e

    module _ (p : longest_score ≤ length m) where
      pub call-bad : (place : ℕ) → v ≡ Err place → Err (BadExtended place) ≡ unfold_answer (length m) f
      unfolding unfold_answer answered pick
      call-bad place e = rw (le-leb longest_score (length m) p, told-wrong v (extended_right f) place found e)

      pub call-answered : v ≡ Ok tt → (m' : List ℕ) (r : Result ℕ UnfoldError) → Answers f m m' r → r ≡ unfold_answer (length m) f
      unfolding unfold_answer pick
      call-answered e m' r a = rw (le-leb longest_score (length m) p, call-right e) a.answer

  pub bad-left : (place : ℕ) → m ≡ room_left (Err (BadExtended place)) (unfolded_file f) m
  unfolding room_left
  bad-left place = refl

  pub answered-left : (m' : List ℕ) (r : Result ℕ UnfoldError) → Answers f m m' r → m' ≡ room_left r (unfolded_file f) m
  answered-left m' r a = a.left

pub ruleset calls = (call-short, short-left, call-right, call-bad, call-answered, bad-left, answered-left, rules)
