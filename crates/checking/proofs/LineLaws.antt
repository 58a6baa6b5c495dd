-- The line of an accepted file is its name, its counts and its parts, laid one behind the other.
-- Assumes nothing.
use mathlib.Core.Path.{◌≡◌}
use mathlib.Core.Bool.{true, false}
use mathlib.Core.List.{List, [], ◌∷◌}
use Prim.Native.Nat.{ℕ}
use borrow.Author.Rules.{rules}
use Rattle.std.specs.Prelude.{Result, Ok, Err}
use Rattle.ascii.specs.Words.{newline}
use Rattle.ascii.specs.Text.{bytes_of}
use Rattle.ascii.specs.Laying.{Laid}
use Rattle.ascii.proofs.LayLaws.{laid-join}
use Rattle.base.specs.Checks.{fine, refused, is_fine}
use Rattle.contents.specs.declared.Fault.{Fault}
use Rattle.contents.specs.Replies.{verdict_of}
use Rattle.contents.specs.Contents.{counts_of}
use Rattle.contents.proofs.Verdicts.{verdict-fine, verdict-refused}
use Rattle.score.specs.Piece.{decode}
use Rattle.score.specs.File.{checked}
use Rattle.score.proofs.Accepted.{accepted-told}
use Rattle.session.specs.declared.Refusal.TheVariants.{File}
use Rattle.refusals.specs.Line.{refusal_line}
use Rattle.checking.specs.Counted.{counted}
use Rattle.checking.specs.Tallies.{actions_in, parts_in}
use Rattle.checking.specs.Checked.{parts_told, counts_told, accepted_line, line_by, checked_line, CheckTold}

-- ---- the counts

module _ {o m₁ m₂ m₃ n : List ℕ} {at a b c r events items actions messages : ℕ} (f : List ℕ) where
  pub lay-counts : events ≡ (counts_of f).events → items ≡ (counts_of f).items → actions ≡ actions_in (decode f).items → messages ≡ (counts_of f).messages
      → Laid o at (counted events " events, ") m₁ a → Laid m₁ a (counted items " items, ") m₂ b → Laid m₂ b (counted actions " actions, ") m₃ c
      → Laid m₃ c (counted messages " messages, parts") n r → Laid o at (counts_told f) n r
  unfolding counts_told
  lay-counts e₁ e₂ e₃ e₄ p q s t =
      rw (← e₁, ← e₂, ← e₃, ← e₄)
      (laid-join o m₁ n _ _ at a r p (laid-join m₁ m₂ n _ _ a b r q (laid-join m₂ m₃ n _ _ b c r s t)))

-- ---- the line

module _ {o m₁ m₂ m₃ m₄ n name : List ℕ} {a b c d r : ℕ} (f : List ℕ) where
  pub lay-accepted : Laid o 0 name m₁ a → Laid m₁ a (bytes_of ": accepted, ") m₂ b → Laid m₂ b (counts_told f) m₃ c
      → Laid m₃ c (parts_told (parts_in (decode f).items)) m₄ d → Laid m₄ d (newline ∷ []) n r → Laid o 0 (accepted_line name f) n r
  unfolding accepted_line
  lay-accepted p q s t u =
      laid-join o m₁ n _ _ 0 a r p (laid-join m₁ m₂ n _ _ a b r q (laid-join m₂ m₃ n _ _ b c r s (laid-join m₃ m₄ n _ _ c d r t u)))

-- ---- of any file, by what its check told

module _ (o n name f : List ℕ) (v : Result (Unit {0}) Fault) (told : v ≡ verdict_of (checked f)) (count : ℕ) where
  pub told-accepted : v ≡ Ok tt → Laid o 0 (accepted_line name f) n count → CheckTold o name f n (record { count = count; accepted = true })
  unfolding checked_line line_by is_fine
  told-accepted e l = let z : checked f ≡ fine = verdict-fine (checked f) v told e in record { line = rw z l; accepted = rw z }

  pub told-refused : (x : Fault) → v ≡ Err x → Laid o 0 (refusal_line name f (File x)) n count → CheckTold o name f n (record { count = count; accepted = false })
  unfolding checked_line line_by is_fine
  told-refused x e l = let z : checked f ≡ refused x = verdict-refused (checked f) v x told e in record { line = rw z l; accepted = rw z }

pub ruleset checks = (accepted-told, told-accepted, told-refused, rules)
