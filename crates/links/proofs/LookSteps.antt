-- What stands at a path, in the code's own terms.
-- Assumes nothing.
use mathlib.Core.Path.{◌≡◌, refl, ap, ◌∙◌}
use Prim.Native.Nat.{ℕ}
use lib.Bits.{bit_and}
use lib.IntN.{ℤ, pos, negsuc}
use mir.Syntax.{w32}
use mir.Val.{SFits, of_z, to_z}
use mir.Facts.{to_z-of_z}
use borrow.Author.Tests.{eq-eqb, ne_eqb}
use borrow.Author.Rules.{rules}
use Rattle.streams.proofs.CallSteps.{bits-say}
use Rattle.links.specs.declared.looking.Kind.TheVariants as kind
use Rattle.links.specs.Faults.{reason_of}
use Rattle.links.specs.Looking.{kind_of, unseen_by}

-- ---- a mode

pub kind-regular : (mode : ℕ) → bit_and mode 61440 ≡ 32768 → kind.Regular (bit_and mode 511) ≡ kind_of mode
unfolding kind_of
kind-regular mode p = rw (eq-eqb (bit_and mode 61440) 32768 p)

pub kind-folder : (mode : ℕ) → (bit_and mode 61440 ≡ 32768 → ⊥) → bit_and mode 61440 ≡ 16384 → kind.Folder ≡ kind_of mode
unfolding kind_of
kind-folder mode p q = rw (ne_eqb (bit_and mode 61440) 32768 p, eq-eqb (bit_and mode 61440) 16384 q)

pub kind-link : (mode : ℕ) → (bit_and mode 61440 ≡ 32768 → ⊥) → (bit_and mode 61440 ≡ 16384 → ⊥) → bit_and mode 61440 ≡ 40960 → kind.Link ≡ kind_of mode
unfolding kind_of
kind-link mode p q s = rw (ne_eqb (bit_and mode 61440) 32768 p, ne_eqb (bit_and mode 61440) 16384 q, eq-eqb (bit_and mode 61440) 40960 s)

pub kind-other : (mode : ℕ) → (bit_and mode 61440 ≡ 32768 → ⊥) → (bit_and mode 61440 ≡ 16384 → ⊥) → (bit_and mode 61440 ≡ 40960 → ⊥) → kind.Other ≡ kind_of mode
unfolding kind_of
kind-other mode p q s = rw (ne_eqb (bit_and mode 61440) 32768 p, ne_eqb (bit_and mode 61440) 16384 q, ne_eqb (bit_and mode 61440) 40960 s)

pub ruleset kinds = (kind-regular, kind-folder, kind-link, kind-other, rules)

-- ---- the system's answer

pub unseen-missing : (e : ℤ) → SFits w32 e → of_z w32 e ≡ 2 → kind.Missing ≡ unseen_by e
unfolding unseen_by
unseen-missing e f p = ap unseen_by (bits-say w32 e 2 f p)

unseen-by : (e : ℤ) → (of_z w32 e ≡ 2 → ⊥) → kind.Unseen (reason_of e) ≡ unseen_by e
unfolding unseen_by
unseen-by (pos n) p = rw (ne_eqb n 2 p)
unseen-by (negsuc n) p = refl

pub unseen-told : (e r : ℤ) → SFits w32 e → (of_z w32 e ≡ 2 → ⊥) → r ≡ reason_of (to_z w32 (of_z w32 e)) → kind.Unseen r ≡ unseen_by e
unseen-told e r f p d =
    let h : r ≡ reason_of e = rw (← to_z-of_z f) d in
    ap kind.Unseen h ∙ unseen-by e p

pub ruleset finding = (unseen-missing, unseen-told, rules)
