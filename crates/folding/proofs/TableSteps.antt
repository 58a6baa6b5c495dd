-- The contents are right: each test of the code is the definition's.
-- Assumes nothing.
use mathlib.Core.Path.{◌≡◌, sym, ◌∙◌}
use mathlib.Core.Bool.{Bool, true, false}
use mathlib.Core.List.{List, [], ◌∷◌}
use Prim.Native.Nat.{ℕ, ◌<◌, ◌≤◌}
use lib.Dec.{eqb}
use lib.ListN.{length}
use borrow.Author.Rules.{rules}
use borrow.Author.Tests.{eq-eqb, ne_eqb, le-leb, lt-leb}
use Rattle.base.specs.Tests.{every}
use Rattle.base.proofs.TestLaws.{every-pass, every-stop, every-last}
use Rattle.extended.specs.declared.Extent.{Extent}
use Rattle.extended.specs.Layout.{extended_contents, extent_of, contents_right}
use Rattle.folding.specs.Inner.{tables_right}

-- ---- a test of two numbers that were read or computed

pub read_same : (a b r s : ℕ) → r ≡ a → s ≡ b → r ≡ s → eqb a b ≡ true
read_same a b r s p q e = eq-eqb a b (sym p ∙ (e ∙ q))

pub read-other : (a b r s : ℕ) → r ≡ a → s ≡ b → (r ≡ s → ⊥) → eqb a b ≡ false
read-other a b r s p q e = ne_eqb a b (λ d. e (p ∙ (d ∙ sym q)))

pub read_is : (a b r : ℕ) → r ≡ a → r ≡ b → eqb a b ≡ true
read_is a b r p e = eq-eqb a b (sym p ∙ e)

pub read-not : (a b r : ℕ) → r ≡ a → (r ≡ b → ⊥) → eqb a b ≡ false
read-not a b r p e = ne_eqb a b (λ d. e (p ∙ d))

pub told-equal : (a b r : ℕ) → r ≡ b → eqb a r ≡ every (eqb a b ∷ [])
told-equal a b r e = every-last (eqb a b) (eqb a r) (rw e)

pub ruleset reads = (every-pass, every-stop, told-equal, read_same, read-other, read_is, read-not)

-- ---- the whole

pub contents-short : (f : List ℕ) → length f < extended_contents → false ≡ contents_right f
unfolding contents_right
contents-short f p = every-stop _ _ (lt-leb extended_contents (length f) p)

pub contents-told : (f : List ℕ) (c : Extent) (r : Bool) → extended_contents ≤ length f → c ≡ extent_of f → r ≡ tables_right f c → r ≡ contents_right f
unfolding contents_right tables_right
contents-told f c r p e q = every-pass _ r _ (le-leb extended_contents (length f) p) (rw e at q)

pub ruleset tables = (contents-short, contents-told, rules)
