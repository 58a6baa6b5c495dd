-- Whether an opening has been refused, after a line of the chunk.
-- Assumes nothing.
use mathlib.Core.Path.{◌≡◌}
use mathlib.Core.Bool.{Bool, true, false}
use mathlib.Core.List.{List}
use Prim.Native.Nat.{ℕ}
use native.Mathlib.Omega.{arith}
use lib.ListN.{take, drop}
use borrow.Author.Rules.{rules}
use Rattle.base.specs.Tests.{pick}
use Rattle.chunks.specs.declared.Progress.{Progress}
use Rattle.chunks.specs.declared.Step.{Step}
use Rattle.chunks.specs.Inner.{reading_of, WentOn}
use Rattle.telling.specs.Openings.{tells_refusal}
use Rattle.performance.specs.Refused.{refused_after}

pub line-told : (f chunk : List ℕ) (at : ℕ) (m room line : List ℕ) (p : Progress) (out m' room' line' out' : List ℕ) (s : Step) (r refused : Bool)
    → WentOn f chunk at m room line p out m' room' line' out' s → r ≡ pick (tells_refusal (take s.count out')) true refused
    → r ≡ refused_after f (reading_of m room line p) (drop at chunk) refused
unfolding refused_after
line-told f chunk at m room line p out m' room' line' out' s r refused w e = rw w.output.front at e

pub ruleset turns = (line-told, rules)
