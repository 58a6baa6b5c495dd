-- What a line that was read says of the lines of the text, in the code's own terms.
-- Assumes nothing.
use Rattle.std.specs.Prelude.{Result, Ok, Err}
use mathlib.Core.Path.{◌≡◌, refl, sym, ◌∙◌}
use mathlib.Core.Bool.{true, false}
use mathlib.Core.List.{List}
use Prim.Native.Nat.{ℕ, ◌+◌, ◌-◌, ◌<◌, ◌≤◌}
use native.Mathlib.Omega.{arith}
use lib.ListN.{length, drop, length-drop}
use Rattle.base.specs.Tests.{pick}
use Rattle.tokens.specs.Tokens.{got, stop, blanks}
use Rattle.tokens.specs.Asked.{Passes}
use Rattle.text.specs.declared.Stage.{Stage}
use Rattle.text.specs.Grammar.{line, is_over, done, more, fault, follow, script}
use Rattle.text.proofs.ScriptLaws.{script-follow, label_size, line-spares}
use Rattle.script.specs.declared.Found.{Found}
use Rattle.script.specs.declared.Found.TheVariants.{Heading, Message, Event, Part, Send, Group, Close}
use Rattle.script.specs.declared.Step.{Step}
use Rattle.script.specs.Steps.{line_of, line_in, as_line, ends_at, Fits, fits_message, StepFits, fits_read, Lines}
use Rattle.script.specs.Stages.{stage_after}
use Rattle.script.specs.Tallies.{size_in}
use Rattle.script.proofs.StageSteps.{after_line}

-- ---- what was found, and the line

pub found-line : (t : List ℕ) (f : Found) (left : List ℕ) → line_of t f left ≡ got (line_in t f) left
unfolding line_of line_in
found-line t Heading left = refl
found-line t (Message start size) left = refl
found-line t (Event g) left = refl
found-line t (Part n) left = refl
found-line t (Send d n) left = refl
found-line t (Group d w v) left = refl
found-line t Close left = refl

step-fits : {t : List ℕ} (s : Step) → StepFits t (Ok s) → Fits t s.found
step-fits s (fits_read p) = p

found-size : (t : List ℕ) (f : Found) → Fits t f → label_size (line_in t f) ≡ size_in f
unfolding line_in label_size size_in
found-size t Heading p = refl
found-size t (Message start size) (fits_message a b) = sym b
found-size t (Event g) p = refl
found-size t (Part n) p = refl
found-size t (Send d n) p = refl
found-size t (Group d w v) p = refl
found-size t Close p = refl

-- ---- the lines from a byte on, by the first of them

module _ (t : List ℕ) (at from : ℕ) (stage : Stage) (passed : Passes t at from) where
  pub script-over : is_over stage (drop from t) ≡ true → script stage (drop at t) ≡ done
  unfolding pick
  script-over e = rw (script-follow stage (drop at t), passed.left, e)

  module _ (v : Result Step ℕ) (read : Lines t (line stage (drop from t)) v) where
    module _ (at' : ℕ) (k : v ≡ Err at') where
      read-fault : line stage (blanks (drop at t)) ≡ stop (drop at' t)
      unfolding as_line
      read-fault = rw passed.left (sym (rw k at read.says))

      pub fault-near : at' ≤ length t
      unfolding ends_at
      fault-near = rw k at read.within

      pub script-fault : is_over stage (drop from t) ≡ false → script stage (drop at t) ≡ fault (drop at' t)
      unfolding pick follow
      script-fault n =
          let o : is_over stage (blanks (drop at t)) ≡ false = rw passed.left n in
          rw (script-follow stage (drop at t), o, read-fault)

    module _ (s : Step) (k : v ≡ Ok s) where
      pub line-fits : Fits t s.found
      line-fits = step-fits s (rw k at read.fits)

      pub line-within : s.next ≤ length t
      unfolding ends_at
      line-within = rw k at read.within

      pub read-line : line stage (blanks (drop at t)) ≡ got (line_in t s.found) (drop s.next t)
      unfolding as_line
      read-line =
          let says : line_of t s.found (drop s.next t) ≡ line stage (drop from t) = rw k at read.says in
          rw passed.left (sym says ∙ found-line t s.found (drop s.next t))

      pub script-more : is_over stage (drop from t) ≡ false → script stage (drop at t) ≡ more (line_in t s.found) (script (stage_after s.found stage) (drop s.next t))
      unfolding pick follow
      script-more n =
          let o : is_over stage (blanks (drop at t)) ≡ false = rw passed.left n in
          let a = after_line t s.found (line_in t s.found) (drop s.next t) (drop s.next t) stage (found-line t s.found (drop s.next t)) in
          rw (script-follow stage (drop at t), o, read-line, a)

      -- A line takes a byte more than its label has.
      pub line_on : at + size_in s.found < s.next
      line_on =
          let l = line-spares stage (drop at t) (line_in t s.found) (drop s.next t) read-line in
          omega (arith, l, found-size t s.found line-fits, length-drop s.next t, length-drop at t, line-within)

      pub line-less : length t - s.next < length t - at
      line-less = omega (arith, line_on, line-within)
