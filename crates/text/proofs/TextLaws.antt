-- A text that was written has the lines that were written, and no fault.
-- Line by line, whatever blanks stand before each. Assumes nothing.
use mathlib.Core.Path.{◌≡◌, refl}
use mathlib.Core.Bool.{true}
use mathlib.Core.List.{List, [], ◌∷◌}
use Prim.Native.Nat.{ℕ, zero, suc, ◌≤◌}
use native.Mathlib.Omega.{arith}
use lib.ListN.{length, length-append}
use Rattle.base.specs.Tests.{pick}
use Rattle.tokens.specs.Tokens.{past_blanks, blanks}
use Rattle.text.specs.declared.Stage.{Stage}
use Rattle.text.specs.Grammar.{Line, after, may_end, is_over, Script, done, more, follow, script_from, script}
use Rattle.text.specs.Written.{Spot, line_text, behind_line, text_of}
use Rattle.text.proofs.LineLaws.{Outside, in_list, in_event, in_part, May, line_left, line_read, left_passed, line-not-over, line-some}

-- These lines and no fault.
unfoldable pub script_of : List Line → Script
script_of [] = done
script_of (l ∷ rest) = more l (script_of rest)

-- Each of these lines may stand where it stands, the first of them here.
pub data Nested (ls : List (List ℕ)) : Stage → Spot → List Line → Type 0 where
  ends : {stage : Stage} {s : Spot} → Outside stage → Nested ls stage s []
  goes : {stage : Stage} {s : Spot} {l : Line} {rest : List Line} → May ls stage s l → Nested ls (after l stage) (behind_line l s) rest → Nested ls stage s (l ∷ rest)

outside-ends : {stage : Stage} → Outside stage → may_end stage ≡ true
unfolding may_end
outside-ends in_list = refl
outside-ends in_event = refl
outside-ends in_part = refl

module _ (ls : List (List ℕ)) where
  -- The lines of a written text, whatever blanks stand before it.
  lines-read : (n : ℕ) {stage : Stage} {s : Spot} {hs : List Line} (bs : List ℕ) → Nested ls stage s hs → length hs ≤ n → blanks bs ≡ blanks (text_of ls s hs)
      → script_from (suc n) stage bs ≡ script_of hs
  unfolding script_from follow text_of script_of pick is_over past_blanks
  lines-read n bs (ends o) p e = rw (e, outside-ends o)
  lines-read zero bs (goes m w) p e = absurd (omega arith)
  lines-read (suc n) bs (goes {stage = stage} {s = s} {l = l} {rest = rest} m w) p e =
      let there = line_read ls (text_of ls (behind_line l s) rest) m in
      rw (
        e,
        line-not-over stage _ _ l there,
        there,
        lines-read n (line_left ls s l (text_of ls (behind_line l s) rest)) w (omega arith) (left_passed ls (text_of ls (behind_line l s) rest) m),
      )

  -- Each has a byte.
  lines-short : (s : Spot) (hs : List Line) → length hs ≤ length (text_of ls s hs)
  unfolding text_of
  lines-short s [] = omega arith
  lines-short s (l ∷ rest) = omega (arith, length-append (line_text ls s l) (text_of ls (behind_line l s) rest), line-some ls s l, lines-short (behind_line l s) rest)

  pub script-written : {stage : Stage} {s : Spot} {hs : List Line} → Nested ls stage s hs → script stage (text_of ls s hs) ≡ script_of hs
  unfolding script
  script-written {stage} {s} {hs} w = lines-read (length (text_of ls s hs)) (text_of ls s hs) w (lines-short s hs) refl
