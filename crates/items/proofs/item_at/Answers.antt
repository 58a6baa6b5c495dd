-- The fields are read where the definition reads them.
-- Assumes nothing.
use mathlib.Core.Path.{◌≡◌}
use mathlib.Core.List.{List}
use Prim.Native.Nat.{ℕ, ◌+◌}
use borrow.Author.Rules.{rules}
use Rattle.contents.specs.Bytes.{byte_at, u16_at, u32_at}
use Rattle.items.specs.Items.{item_at}
use Rattle.items.proofs.item_at.Goals as goal

fields_read : (f : List ℕ) (at kind synchrony error part delay event last : ℕ) → kind ≡ byte_at f at → synchrony ≡ byte_at f (at + 1) → error ≡ byte_at f (at + 2) → part ≡ byte_at f (at + 3)
    → delay ≡ u32_at f (at + 4) → event ≡ u16_at f (at + 8) → last ≡ u16_at f (at + 10)
    → record { kind = kind; synchrony = synchrony; error = error; part = part; delay = record { 0 = delay }; event = event; last = last } ≡ item_at f at
unfolding item_at
fields_read f at kind synchrony error part delay event last k s e p d v l = rw (k, s, e, p, d, v, l)

pub returns : goal.returns
returns c = search (fields_read, rules)
