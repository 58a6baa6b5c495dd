-- An opening is granted when it was before document 02 (vi), and refused as it was, but with 20 to 27 within the same item where it was 7.
-- Assumes nothing.
use mathlib.Core.List.{List, [], ◌∷◌}
use Prim.Native.Nat.{ℕ}
use native.Mathlib.Omega.{arith}
use lib.Dec.{leb}
use lib.ListN.{length}
use Rattle.base.specs.Tests.{between}
use Rattle.base.specs.Checks.{Check, need, first_fault, renamed}
use Rattle.contents.specs.declared.Fault.{Fault}
use Rattle.contents.specs.declared.Reply.{Reply}
use Rattle.contents.specs.Replies.{fault_row}
use Rattle.score.specs.Before.{checked_before, Split, accepted, kept, split}
use Rattle.score.proofs.Where7Stood.{split-none, split-first, split-need, fields-only}
use Rattle.rules.specs.Terms.{Terms}
use Rattle.session.specs.declared.Refusal.TheVariants.{MemoryShort, File, BadTempo, BadGrace}
use Rattle.session.specs.Layout.{memory_size, most_tempo, most_grace}
use Rattle.session.specs.Replies.{refusal_row}
use Rattle.opening.specs.Opening.{opening_check}

-- a fault's row is its refusal's
file-split : {v : Check Reply} {w : Check Fault} → Split fault_row v w → Split refusal_row v (renamed File w)
unfolding renamed refusal_row
file-split accepted = accepted
file-split (kept {x} n) = kept {x = File x} n
file-split (split {x} {b} p q s t) = split {x = File x} {b = b} p q s t

-- "Opening: 1, the file check, 9", then 19.
pub openings-too : (m f : List ℕ) (o : Terms)
    → Split refusal_row
    (first_fault (
    need (leb memory_size (length m)) (refusal_row MemoryShort)
    ∷ checked_before f
    ∷ need (between 1 most_tempo o.tempo) (refusal_row BadTempo)
    ∷ need (leb o.grace most_grace) (refusal_row BadGrace)
    ∷ []
    ))
    (opening_check m f o)
unfolding opening_check refusal_row
openings-too m f o =
    split-first refusal_row _ _ _ _ (split-need refusal_row _ MemoryShort (λ e. omega arith))
    (split-first refusal_row _ _ _ _ (file-split (fields-only f))
    (split-first refusal_row _ _ _ _ (split-need refusal_row _ BadTempo (λ e. omega arith))
    (split-first refusal_row _ _ _ _ (split-need refusal_row _ BadGrace (λ e. omega arith)) (split-none refusal_row))))
