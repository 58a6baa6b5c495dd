-- Lines and columns count from 1; the line is 1 and a line for each newline before it; and an origin that is an end of the text has the place of its first byte.
-- By recursion over the bytes. Assumes nothing.
use mathlib.Core.Path.{◌≡◌, refl, ap}
use mathlib.Core.Bool.{Bool, true, false}
use mathlib.Core.List.{List, [], ◌∷◌, ◌++◌}
use Prim.Native.Nat.{ℕ, suc, ◌+◌, ◌-◌, ◌≤◌}
use native.Mathlib.Omega.{arith}
use lib.Dec.{eqb}
use lib.ListN.{length, take, drop, length-append, length-drop}
use lib.Seq.{take-append_seam}
use borrow.Author.Tests.{not-true}
use Rattle.base.specs.Tests.{pick}
use Rattle.ascii.specs.Words.{newline}
use Rattle.tokens.specs.declared.Place.{Place}
use Rattle.tokens.specs.Bytes.{is_plain, All, none, one}
use Rattle.tokens.specs.Places.{place_from, place_behind}
use Rattle.origins.specs.Origins.{Origin, from, place_of}
use Rattle.origins.proofs.LineTokens.{Token, token}

-- ---- lines and columns count from 1

-- A place of a text.
pub record Numbered (q : Place) : Type 0 where
  pub line : 1 ≤ q.line
  pub column : 1 ≤ q.column

from-numbered : (line column : ℕ) (bs : List ℕ) → 1 ≤ line → 1 ≤ column → Numbered (place_from line column bs)
unfolding place_from pick
from-numbered line column [] p q = record { line = p; column = q }
from-numbered line column (b ∷ bs) p q =
    go (eqb b newline) (from-numbered (line + 1) 1 bs (omega arith) (omega arith)) (from-numbered line (column + 1) bs p (omega arith)) where
      go : (u : Bool) → Numbered (place_from (line + 1) 1 bs) → Numbered (place_from line (column + 1) bs) → Numbered (pick u (place_from (line + 1) 1 bs) (place_from line (column + 1) bs))
      go true r s = r
      go false r s = s

pub place-numbered : (bs : List ℕ) → Numbered (place_behind bs)
unfolding place_behind
place-numbered bs = from-numbered 1 1 bs (omega arith) (omega arith)

-- ---- a line for each newline

unfoldable pub newlines : List ℕ → ℕ
newlines [] = 0
newlines (b ∷ bs) = pick (eqb b newline) (suc (newlines bs)) (newlines bs)

from-line : (line column : ℕ) (bs : List ℕ) → (place_from line column bs).line ≡ line + newlines bs
unfolding place_from newlines pick
from-line line column [] = omega arith
from-line line column (b ∷ bs) = go (eqb b newline) (from-line (line + 1) 1 bs) (from-line line (column + 1) bs) where
  go : (u : Bool) → (place_from (line + 1) 1 bs).line ≡ line + 1 + newlines bs → (place_from line (column + 1) bs).line ≡ line + newlines bs
      → (pick u (place_from (line + 1) 1 bs) (place_from line (column + 1) bs)).line ≡ line + pick u (suc (newlines bs)) (newlines bs)
  go true r s = omega arith
  go false r s = omega arith

pub line-newlines : (bs : List ℕ) → (place_behind bs).line ≡ suc (newlines bs)
unfolding place_behind
line-newlines bs = omega (arith, from-line 1 1 bs)

pub newlines-append : (xs ys : List ℕ) → newlines (xs ++ ys) ≡ newlines xs + newlines ys
unfolding newlines pick
newlines-append [] ys = omega arith
newlines-append (b ∷ xs) ys = go (eqb b newline) (newlines-append xs ys) where
  go : (u : Bool) → newlines (xs ++ ys) ≡ newlines xs + newlines ys → pick u (suc (newlines (xs ++ ys))) (newlines (xs ++ ys)) ≡ pick u (suc (newlines xs)) (newlines xs) + newlines ys
  go true r = omega arith
  go false r = r

pub newlines-plain : {bs : List ℕ} → All is_plain bs → newlines bs ≡ 0
unfolding newlines pick
newlines-plain none = refl
newlines-plain (one {b = b} e a) = rw (not-true (eqb b newline) e) (newlines-plain a)

-- ---- the place of an origin

module _ (t : List ℕ) where
  pub place-drop : (n : ℕ) → n ≤ length t → place_of t (from (drop n t)) ≡ place_behind (take n t)
  unfolding place_of
  place-drop n b = let z : length t - length (drop n t) ≡ n = omega (arith, length-drop n t) in ap (λ (k : ℕ). place_behind (take k t)) z

  pub place_rest : (xs ys : List ℕ) → xs ++ ys ≡ t → place_of t (from ys) ≡ place_behind xs
  unfolding place_of
  place_rest xs ys e =
      let z : length t - length ys ≡ length xs = omega (arith, length-append xs ys, ap (λ (l : List ℕ). length l) e) in
      rw (z, ← e, take-append_seam xs ys)

  -- It is that of a byte of the text, or of its end, and is numbered from 1.
  pub record InText (q : Place) : Type 0 where
    pub at : ℕ
    pub within : at ≤ length t
    pub place : q ≡ place_behind (take at t)
    pub numbered : Numbered q

  pub token-placed : {P : List ℕ → Type 0} {o : Origin} → Token t P o → InText (place_of t o)
  token-placed (token n b h) = record { at = n; within = b; place = place-drop n b; numbered = rw (place-drop n b) (place-numbered (take n t)) }
