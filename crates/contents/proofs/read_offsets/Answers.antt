-- Four reads, each the number that the definition names.
-- Assumes nothing.
use mathlib.Core.Path.{◌≡◌}
use mathlib.Core.List.{List}
use Prim.Native.Nat.{ℕ}
use borrow.Author.Rules.{rules}
use Rattle.contents.specs.Bytes.{u32_at}
use Rattle.contents.specs.Contents.{offsets_of}
use Rattle.contents.proofs.read_offsets.Goals as goal

four-read : (f : List ℕ) (a b c d : ℕ) → a ≡ u32_at f 0 → b ≡ u32_at f 8 → c ≡ u32_at f 16 → d ≡ u32_at f 24 → record { events = a; items = b; messages = c; text = d } ≡ offsets_of f
unfolding offsets_of
four-read f a b c d p q r s = rw (p, q, r, s)

pub returns : goal.returns
returns c = search (four-read, rules)
