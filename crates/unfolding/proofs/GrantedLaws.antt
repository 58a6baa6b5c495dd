-- What is known of an extended score whose unfolding is granted: the room was long enough, it had no fault of its own, it is within the limits, and its file is accepted.
-- Assumes nothing.
use mathlib.Core.Path.{◌≡◌, refl}
use mathlib.Core.Bool.{Bool, true, false}
use mathlib.Core.List.{List}
use Prim.Native.Nat.{ℕ, ◌≤◌}
use native.Mathlib.Omega.{arith}
use lib.Dec.{leb}
use lib.ListN.{length}
use borrow.Author.Tests.{leb-true}
use Rattle.std.specs.Prelude.{Ok, Err}
use Rattle.base.specs.Tests.{pick}
use Rattle.base.specs.Checks.{Check, fine, refused}
use Rattle.contents.specs.declared.Fault.{Fault}
use Rattle.contents.specs.Limits.{longest_score}
use Rattle.score.specs.File.{checked, Accepted}
use Rattle.extended.specs.Right.{extended_right}
use Rattle.unfolding.specs.declared.UnfoldError.TheVariants.{NoRoom, OverLimit}
use Rattle.unfolding.specs.Extended.{extended_of}
use Rattle.unfolding.specs.Sizes.{score_of, within_limits}
use Rattle.unfolding.specs.Answers.{unfolded_file, judged, answered, unfold_answer}

pub record Granted (room : ℕ) (f : List ℕ) (n : ℕ) : Type 0 where
  pub long : longest_score ≤ room
  pub right : extended_right f ≡ fine
  pub within : within_limits (score_of (extended_of f)) ≡ true
  pub accepted : Accepted (unfolded_file f)
  pub size : length (unfolded_file f) ≡ n

module _ (room : ℕ) (f : List ℕ) (n : ℕ) where
  judged-made : (v : Check Fault) → judged (unfolded_file f) v ≡ Ok n → (v ≡ fine) × (length (unfolded_file f) ≡ n)
  unfolding judged
  judged-made fine e = (refl, cc)
  judged-made (refused x) e = let z : ◌≡◌ {A = ℕ} 0 1 = cc in absurd (omega arith)

  within-made : (b : Bool) → pick b (judged (unfolded_file f) (checked (unfolded_file f))) (Err OverLimit) ≡ Ok n → (b ≡ true) × (judged (unfolded_file f) (checked (unfolded_file f)) ≡ Ok n)
  unfolding pick
  within-made true e = (refl, e)
  within-made false e = let z : ◌≡◌ {A = ℕ} 0 1 = cc in absurd (omega arith)

  right-made : (v : Check ℕ) → answered f v ≡ Ok n
      → (v ≡ fine) × (pick (within_limits (score_of (extended_of f))) (judged (unfolded_file f) (checked (unfolded_file f))) (Err OverLimit) ≡ Ok n)
  unfolding answered
  right-made fine e = (refl, e)
  right-made (refused p) e = let z : ◌≡◌ {A = ℕ} 0 1 = cc in absurd (omega arith)

  room-made : (b : Bool) → pick b (answered f (extended_right f)) (Err NoRoom) ≡ Ok n → (b ≡ true) × (answered f (extended_right f) ≡ Ok n)
  unfolding pick
  room-made true e = (refl, e)
  room-made false e = let z : ◌≡◌ {A = ℕ} 0 1 = cc in absurd (omega arith)

  pub granted : unfold_answer room f ≡ Ok n → Granted room f n
  unfolding unfold_answer
  granted e =
      let a = room-made (leb longest_score room) e in
      let b = right-made (extended_right f) a.1 in
      let c = within-made (within_limits (score_of (extended_of f))) b.1 in
      let d = judged-made (checked (unfolded_file f)) c.1 in
      record { long = leb-true longest_score room a.0; right = b.0; within = c.0; accepted = record { fine = d.0 }; size = d.1 }
