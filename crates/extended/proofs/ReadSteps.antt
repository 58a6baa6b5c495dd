-- What is read of a table of contents and of an item is read where the definitions read it.
-- Assumes nothing.
use mathlib.Core.Path.{◌≡◌}
use mathlib.Core.List.{List}
use Prim.Native.Nat.{ℕ, ◌+◌}
use borrow.Author.Rules.{rules}
use Rattle.units.specs.declared.Grains.{Grains}
use Rattle.contents.specs.Bytes.{byte_at, u16_at, u32_at}
use Rattle.items.specs.Items.{item_at}
use Rattle.extended.specs.Layout.{extent_of}
use Rattle.extended.specs.Folds.{folded_at}

pub extent-read : (f : List ℕ) (e i m t p : ℕ) → e ≡ u32_at f 4 → i ≡ u32_at f 12 → m ≡ u32_at f 20 → t ≡ u32_at f 28 → p ≡ u32_at f 36
    → record { events = e; items = i; messages = m; text = t; points = p } ≡ extent_of f
unfolding extent_of
extent-read f e i m t p a b c d g = rw (a, b, c, d, g)

delay-read : (d : Grains) (n : ℕ) → d.0 ≡ n → d ≡ record { 0 = n }
delay-read d n e = rw (← e)

pub folded_read : (f : List ℕ) (at kind synchrony error part event last each times pad : ℕ) (delay : Grains) → kind ≡ byte_at f at → synchrony ≡ byte_at f (at + 1) → error ≡ byte_at f (at + 2)
    → part ≡ byte_at f (at + 3) → delay.0 ≡ u32_at f (at + 4) → event ≡ u16_at f (at + 8) → last ≡ u16_at f (at + 10) → each ≡ u32_at f (at + 12) → times ≡ u16_at f (at + 16)
    → pad ≡ u16_at f (at + 18)
    → record {
      item = record { kind = kind; synchrony = synchrony; error = error; part = part; delay = delay; event = event; last = last };
      each = each;
      times = times;
      pad = pad;
    } ≡ folded_at f at
unfolding folded_at item_at
folded_read f at kind synchrony error part event last each times pad delay k s e p d v l a b c = rw (k, s, e, p, delay-read delay _ d, v, l, a, b, c)

pub ruleset reading = (extent-read, folded_read, rules)
