-- Four reads, each the number that the definition names.
-- Assumes nothing.
use mathlib.Core.Path.{◌≡◌}
use mathlib.Core.List.{List}
use Prim.Native.Nat.{ℕ}
use borrow.Author.Rules.{rules}
use Rattle.contents.specs.Bytes.{u32_at}
use Rattle.contents.specs.Contents.{counts_of}
use Rattle.contents.proofs.read_counts.Goals as goal

four-read : (f : List ℕ) (a b c d : ℕ) → a ≡ u32_at f 4 → b ≡ u32_at f 12 → c ≡ u32_at f 20 → d ≡ u32_at f 28 → record { events = a; items = b; messages = c; text = d } ≡ counts_of f
unfolding counts_of
four-read f a b c d p q r s = rw (p, q, r, s)

pub returns : goal.returns
returns c = search (four-read, rules)
