-- The bytes that are a word are its bytes.
-- Assumes nothing.
use mathlib.Core.Path.{◌≡◌, refl}
use mathlib.Core.Bool.{Bool, true, false}
use mathlib.Core.List.{List, [], ◌∷◌}
use Prim.Native.Nat.{ℕ}
use native.Mathlib.Omega.{arith}
use lib.Dec.{eqb}
use lib.ListN.{length}
use borrow.Author.Tests.{eqb-true}
use Rattle.base.specs.Tests.{pick}
use Rattle.base.proofs.TestLaws.{every-head, every_rest}
use Rattle.ascii.specs.Words.{begins, same}

whole : (word bytes : List ℕ) → length word ≡ length bytes → begins word bytes ≡ true → word ≡ bytes
unfolding begins pick
whole [] [] l e = refl
whole [] (b ∷ bs) l e = absurd (omega arith)
whole (w ∷ ws) [] l e = absurd (omega arith)
whole (w ∷ ws) (b ∷ bs) l e = go (eqb w b) (whole ws bs) refl e where
  go : (t : Bool) → (length ws ≡ length bs → begins ws bs ≡ true → ws ≡ bs) → eqb w b ≡ t → pick t (begins ws bs) false ≡ true → w ∷ ws ≡ b ∷ bs
  go true r p q =
      let h : w ≡ b = eqb-true w b p in
      let k : ws ≡ bs = r (omega arith) q in
      cc
  go false r p q = let z : ◌≡◌ {A = ℕ} 0 1 = cc in absurd (omega arith)

pub same_bytes : (word bytes : List ℕ) → same word bytes ≡ true → word ≡ bytes
unfolding same
same_bytes word bytes e = whole word bytes (eqb-true _ _ (every-head _ _ e)) (every-head _ _ (every_rest _ _ e))
