-- No second answer meets the contract of a reader: whether a token is read, where it ends or can't be, and its value where it is read.
-- Assumes nothing.
use Rattle.std.specs.Prelude.{Result, Ok, Err}
use mathlib.Core.Path.{◌≡◌, refl, sym, ap, ◌∙◌}
use mathlib.Core.List.{List}
use Prim.Native.Nat.{ℕ, ◌≤◌}
use native.Mathlib.Omega.{arith}
use lib.ListN.{length, drop, length-drop}
use Rattle.tokens.specs.declared.Token.{Token}
use Rattle.tokens.specs.Tokens.{Read}
use Rattle.tokens.specs.Asked.{Passes, as_read, met_at, Reads, Sizes}

-- One place within a text has these bytes left.
one_place : (t : List ℕ) (a b : ℕ) → a ≤ length t → b ≤ length t → drop a t ≡ drop b t → a ≡ b
one_place t a b p q e =
    let l = ap (λ (bs : List ℕ). length bs) e in
    omega (arith, length-drop a t, length-drop b t)

pub one-passed : (t : List ℕ) (at r r' : ℕ) → Passes t at r → Passes t at r' → r ≡ r'
one-passed t at r r' p q = one_place t r r' p.within q.within (sym p.left ∙ q.left)

-- The same is read, or neither is.
pub data Alike (v w : Result Token ℕ) : Type 0 where
  both : (k l : Token) → v ≡ Ok k → w ≡ Ok l → k.value ≡ l.value → k.next ≡ l.next → Alike v w
  neither : (i j : ℕ) → v ≡ Err i → w ≡ Err j → i ≡ j → Alike v w

module _ (t : List ℕ) where
  one-read : (v w : Result Token ℕ) → met_at v ≤ length t → met_at w ≤ length t → as_read t v ≡ as_read t w → Alike v w
  unfolding as_read met_at
  one-read (Ok k) (Ok l) p q e = both k l refl refl (cc) (one_place t k.next l.next p q (cc))
  one-read (Ok k) (Err j) p q e = let z : ◌≡◌ {A = ℕ} 0 1 = cc in absurd (omega arith)
  one-read (Err i) (Ok l) p q e = let z : ◌≡◌ {A = ℕ} 0 1 = cc in absurd (omega arith)
  one-read (Err i) (Err j) p q e = neither i j refl refl (one_place t i j p q (cc))

module _ (t : List ℕ) (v w : Result Token ℕ) where
  pub reads-alike : (limit : ℕ) (what : Read ℕ) → Reads t limit what v → Reads t limit what w → Alike v w
  reads-alike limit what p q = one-read t v w p.within q.within (p.says ∙ sym q.says)

  pub sizes-alike : (what : Read (List ℕ)) → Sizes t what v → Sizes t what w → Alike v w
  sizes-alike what p q = one-read t v w p.within q.within (p.says ∙ sym q.says)
