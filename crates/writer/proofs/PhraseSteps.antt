-- Blanks and words, in the code's own terms.
-- Assumes nothing.
use mathlib.Core.Path.{◌≡◌}
use mathlib.Core.List.{List}
use Prim.Native.Nat.{ℕ, ◌+◌, ◌*◌, ◌≤◌}
use lib.ListN.{length, replicate, length-replicate}
use borrow.Author.Rules.{rules}
use Rattle.ascii.specs.Words.{space}
use Rattle.ascii.specs.Laying.{Laid}
use Rattle.text.specs.Written.{indent}
use Rattle.text.proofs.WordLaws.{loose-is, tight-is, local-is, global-is, partial-is, causal-is}

-- ---- blanks

pub indent-room : (o : List ℕ) (at depth : ℕ) → at + length (indent depth) ≤ length o → at + (4 + 2 * depth) ≤ length o
unfolding indent
indent-room o at depth p = rw (length-replicate (4 + 2 * depth) space) at p

pub indent-laid : (o n : List ℕ) (at depth r : ℕ) → Laid o at (replicate (4 + 2 * depth) space) n r → Laid o at (indent depth) n r
unfolding indent
indent-laid o n at depth r l = l

pub ruleset indents = (indent-room, indent-laid, rules)

-- ---- words

-- a word is laid, and it is the one that was asked
pub word_room : (o w x : List ℕ) (at : ℕ) → x ≡ w → at + length x ≤ length o → at + length w ≤ length o
word_room o w x at e p = rw e at p

pub word-laid : (o w x new : List ℕ) (at r : ℕ) → x ≡ w → Laid o at w new r → Laid o at x new r
word-laid o w x new at r e l = rw e l

pub ruleset words = (loose-is, tight-is, local-is, global-is, partial-is, causal-is, word_room, word-laid, rules)
