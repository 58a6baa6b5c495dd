-- What a line of the input prints, in whatever chunks it came, tells of a refusal exactly where the line is an opening that is refused.
-- Assumes nothing.
use mathlib.Core.Path.{◌≡◌}
use mathlib.Core.List.{List}
use Prim.Native.Nat.{ℕ, ◌+◌}
use Rattle.chunks.specs.Reading.{Reading, line_read}
use Rattle.telling.specs.Openings.{tells_refusal, opening_refused}
use Rattle.telling.proofs.OpeningLaws.{refusal-told}

pub read_told : (f : List ℕ) (r : Reading) → tells_refusal (line_read f r).output ≡ opening_refused f r.grace (r.lines + 1) r.stand r.kept
unfolding line_read
read_told f r = refusal-told f r.grace (r.lines + 1) r.stand r.kept
