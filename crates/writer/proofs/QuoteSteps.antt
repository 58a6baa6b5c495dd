-- Each step of a label in quotes, in the code's own terms. The invariant: what is owed of the bytes left completes the label.
-- Assumes nothing.
use mathlib.Core.Path.{◌≡◌, refl, sym, ◌∙◌}
use mathlib.Core.Bool.{Bool, true, false}
use mathlib.Core.List.{List, [], ◌∷◌, ◌++◌}
use Prim.Native.Nat.{ℕ, suc, ◌+◌, ◌<◌, ◌≤◌}
use native.Mathlib.Numerals.{add-one}
use native.Mathlib.Omega.{arith}
use lib.ListN.{length, drop, get_or, drop_of_length-le}
use lib.Seq.{drop-cons}
use borrow.Author.Rules.{rules}
use Rattle.base.specs.Tests.{pick}
use Rattle.ascii.specs.Laying.{Laid}
use Rattle.ascii.proofs.LayLaws.{laid-join}
use Rattle.tokens.specs.Bytes.{quote, backslash, is_escaped}
use Rattle.tokens.specs.Quoted.{escaped, quoted}
use Rattle.writer.specs.Phrases.{marked}
use Rattle.writer.proofs.Owed.{Owed, owed_start, owed-done, owed-room, owed-laid}

-- ---- two bytes

pub second-room : (o m : List ℕ) (b at a : ℕ) → at + 2 ≤ length o → Laid o at (b ∷ []) m a → a + 1 ≤ length m
second-room o m b at a p l = omega (arith, l.stop, l.size)

pub two-laid : (o m n : List ℕ) (b c at a r : ℕ) → Laid o at (b ∷ []) m a → Laid m a (c ∷ []) n r → Laid o at (b ∷ c ∷ []) n r
two-laid o m n b c at a r p q = laid-join o m n (b ∷ []) (c ∷ []) at a r p q

pub ruleset pairs = (second-room, two-laid, rules)

-- ---- one byte of the label

module _ (b : ℕ) (t : Bool) (told : t ≡ is_escaped b) where
  marked-escaped : t ≡ true → marked b ≡ backslash ∷ b ∷ []
  unfolding marked pick
  marked-escaped p = rw (sym told ∙ p)

  marked-plain : t ≡ false → marked b ≡ b ∷ []
  unfolding marked pick
  marked-plain p = rw (sym told ∙ p)

  module _ (o : List ℕ) (at : ℕ) where
    pub escaped-room : t ≡ true → at + length (marked b) ≤ length o → at + 2 ≤ length o
    escaped-room p q = rw (marked-escaped p) at q

    pub plain-room : t ≡ false → at + length (marked b) ≤ length o → at + 1 ≤ length o
    plain-room p q = rw (marked-plain p) at q

    module _ (new : List ℕ) (r : ℕ) where
      pub escaped-laid : t ≡ true → Laid o at (backslash ∷ b ∷ []) new r → Laid o at (marked b) new r
      escaped-laid p l = rw (marked-escaped p) l

      pub plain-laid : t ≡ false → Laid o at (b ∷ []) new r → Laid o at (marked b) new r
      plain-laid p l = rw (marked-plain p) l

pub ruleset marks = (escaped-room, plain-room, escaped-laid, plain-laid, rules)

-- ---- the label

escaped-more : (l : List ℕ) (i : ℕ) → i < length l → escaped (drop i l) ≡ marked (get_or l i 0) ++ escaped (drop (i + 1) l)
unfolding escaped marked pick
escaped-more l i p = rw (drop-cons l i 0 p, add-one i) (go (is_escaped (get_or l i 0))) where
  go : (t : Bool) → pick t (backslash ∷ get_or l i 0 ∷ escaped (drop (suc i) l)) (get_or l i 0 ∷ escaped (drop (suc i) l))
      ≡ pick t (backslash ∷ get_or l i 0 ∷ []) (get_or l i 0 ∷ []) ++ escaped (drop (suc i) l)
  go true = refl
  go false = refl

escaped-end : (l : List ℕ) (i : ℕ) → length l ≤ i → escaped (drop i l) ≡ quote ∷ []
unfolding escaped
escaped-end l i p = rw (drop_of_length-le l p)

pub record Escaping (o : List ℕ) (at : ℕ) (l m : List ℕ) (next i : ℕ) : Type 0 where
  pub owed : Owed o at (escaped l) m next (escaped (drop i l))

pub escape-start : (o : List ℕ) (at : ℕ) (l : List ℕ) → at + length (escaped l) ≤ length o → Escaping o at l o at 0
escape-start o at l p = record { owed = owed_start o at (escaped l) p }

module _ (o : List ℕ) (at : ℕ) (l m : List ℕ) (next i : ℕ) (inv : Escaping o at l m next i) where
  module _ (more : i < length l) where
    owed_more : Owed o at (escaped l) m next (marked (get_or l i 0) ++ escaped (drop (i + 1) l))
    owed_more = rw (escaped-more l i more) at inv.owed

    pub escape-room : next + length (marked (get_or l i 0)) ≤ length m
    escape-room = owed-room o at (escaped l) m next (marked (get_or l i 0)) _ owed_more

    pub escape-step : (m' : List ℕ) (r : ℕ) → Laid m next (marked (get_or l i 0)) m' r → Escaping o at l m' r (i + 1)
    escape-step m' r laid = record { owed = owed-laid o at (escaped l) m next (marked (get_or l i 0)) _ owed_more m' r laid }

  module _ (over : length l ≤ i) where
    owed-last : Owed o at (escaped l) m next ((quote ∷ []) ++ [])
    owed-last = rw (escaped-end l i over) at inv.owed

    pub last-room : next + 1 ≤ length m
    last-room = owed-room o at (escaped l) m next (quote ∷ []) [] owed-last

    pub escape-done : (m' : List ℕ) (r : ℕ) → Laid m next (quote ∷ []) m' r → Laid o at (escaped l) m' r
    escape-done m' r laid = owed-done o at (escaped l) m' r [] (owed-laid o at (escaped l) m next (quote ∷ []) [] owed-last m' r laid) refl

pub ruleset escaping = (escape-start, escape-room, escape-step, last-room, escape-done, rules)

-- ---- the first quote

pub quote-first : (o : List ℕ) (at : ℕ) (l : List ℕ) → at + length (quoted l) ≤ length o → at + 1 ≤ length o
unfolding quoted
quote-first o at l p = omega arith

pub quote-room : (o : List ℕ) (at : ℕ) (l m : List ℕ) (a : ℕ) → Laid o at (quote ∷ []) m a → at + length (quoted l) ≤ length o → a + length (escaped l) ≤ length m
unfolding quoted
quote-room o at l m a first p = omega (arith, first.stop, first.size)

pub quote-done : (o : List ℕ) (at : ℕ) (l m n : List ℕ) (a r : ℕ) → Laid o at (quote ∷ []) m a → Laid m a (escaped l) n r → Laid o at (quoted l) n r
unfolding quoted
quote-done o at l m n a r first rest = laid-join o m n (quote ∷ []) (escaped l) at a r first rest

pub ruleset quoting = (quote-first, quote-room, quote-done, rules)
