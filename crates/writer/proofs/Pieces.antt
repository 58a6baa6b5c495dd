-- A line's pieces laid one behind the other are the line, and room for the line is room for each.
-- Assumes nothing.
use mathlib.Core.List.{List, [], ◌∷◌, append-nil}
use Prim.Native.Nat.{ℕ, ◌+◌, ◌≤◌}
use native.Mathlib.Omega.{arith}
use lib.ListN.{length, length-append}
use borrow.Author.Rules.{rules}
use Rattle.ascii.specs.Laying.{Laid}
use Rattle.ascii.proofs.LayLaws.{laid-join}
use Rattle.writer.specs.Phrases.{joined}

pub first-room : (o x : List ℕ) (xs : List (List ℕ)) (at : ℕ) → at + length (joined (x ∷ xs)) ≤ length o → at + length x ≤ length o
unfolding joined
first-room o x xs at p = omega (arith, length-append x (joined xs))

-- room behind what was laid
next-room : (o m x : List ℕ) (xs : List (List ℕ)) (at a : ℕ) → Laid o at x m a → at + length (joined (x ∷ xs)) ≤ length o → a + length (joined xs) ≤ length m
unfolding joined
next-room o m x xs at a l p = omega (arith, length-append x (joined xs), l.stop, l.size)

first-laid : (o m n x : List ℕ) (xs : List (List ℕ)) (at a r : ℕ) → Laid o at x m a → Laid m a (joined xs) n r → Laid o at (joined (x ∷ xs)) n r
unfolding joined
first-laid o m n x xs at a r p q = laid-join o m n x (joined xs) at a r p q

last-laid : (o n x : List ℕ) (at r : ℕ) → Laid o at x n r → Laid o at (joined (x ∷ [])) n r
unfolding joined
last-laid o n x at r p = rw (append-nil x) p

-- ---- two to five pieces, as the calls tell of them

module _ (o m x y : List ℕ) (at a : ℕ) (p : Laid o at x m a) where
  pub two-laid : (n : List ℕ) (r : ℕ) → Laid m a y n r → Laid o at (joined (x ∷ y ∷ [])) n r
  two-laid n r q = first-laid o m n x (y ∷ []) at a r p (last-laid m n y a r q)

  module _ (k z : List ℕ) (b : ℕ) (q : Laid m a y k b) where
    pub three-laid : (n : List ℕ) (r : ℕ) → Laid k b z n r → Laid o at (joined (x ∷ y ∷ z ∷ [])) n r
    three-laid n r s = first-laid o m n x (y ∷ z ∷ []) at a r p (first-laid m k n y (z ∷ []) a b r q (last-laid k n z b r s))

    module _ (h u : List ℕ) (c : ℕ) (s : Laid k b z h c) where
      pub four-laid : (n : List ℕ) (r : ℕ) → Laid h c u n r → Laid o at (joined (x ∷ y ∷ z ∷ u ∷ [])) n r
      four-laid n r t =
          first-laid o m n x (y ∷ z ∷ u ∷ []) at a r p
          (first-laid m k n y (z ∷ u ∷ []) a b r q (first-laid k h n z (u ∷ []) b c r s (last-laid h n u c r t)))

      pub five-laid : (j w : List ℕ) (d : ℕ) (n : List ℕ) (r : ℕ) → Laid h c u j d → Laid j d w n r → Laid o at (joined (x ∷ y ∷ z ∷ u ∷ w ∷ [])) n r
      five-laid j w d n r t v =
          first-laid o m n x (y ∷ z ∷ u ∷ w ∷ []) at a r p
          (first-laid m k n y (z ∷ u ∷ w ∷ []) a b r q
          (first-laid k h n z (u ∷ w ∷ []) b c r s (first-laid h j n u (w ∷ []) c d r t (last-laid j n w d r v))))

-- ---- room for the second to the fifth piece: what was laid last stands first among the premises, since the goal names it

pub second-room : (o m x y : List ℕ) (at a : ℕ) (ys : List (List ℕ)) → Laid o at x m a → at + length (joined (x ∷ y ∷ ys)) ≤ length o → a + length y ≤ length m
second-room o m x y at a ys p l = first-room m y ys a (next-room o m x (y ∷ ys) at a p l)

pub third-room : (o m k x y z : List ℕ) (at a b : ℕ) (zs : List (List ℕ)) → Laid m a y k b → Laid o at x m a
    → at + length (joined (x ∷ y ∷ z ∷ zs)) ≤ length o → b + length z ≤ length k
third-room o m k x y z at a b zs q p l = second-room m k y z a b zs q (next-room o m x (y ∷ z ∷ zs) at a p l)

pub fourth-room : (o m k h x y z u : List ℕ) (at a b c : ℕ) (us : List (List ℕ)) → Laid k b z h c → Laid m a y k b → Laid o at x m a
    → at + length (joined (x ∷ y ∷ z ∷ u ∷ us)) ≤ length o → c + length u ≤ length h
fourth-room o m k h x y z u at a b c us s q p l = third-room m k h y z u a b c us s q (next-room o m x (y ∷ z ∷ u ∷ us) at a p l)

pub fifth-room : (o m k h j x y z u w : List ℕ) (at a b c d : ℕ) (ws : List (List ℕ)) → Laid h c u j d → Laid k b z h c → Laid m a y k b → Laid o at x m a
    → at + length (joined (x ∷ y ∷ z ∷ u ∷ w ∷ ws)) ≤ length o → d + length w ≤ length j
fifth-room o m k h j x y z u w at a b c d ws t s q p l = fourth-room m k h j y z u w a b c d ws t s q (next-room o m x (y ∷ z ∷ u ∷ w ∷ ws) at a p l)

-- where the piece is one byte
pub second-byte : (o m x : List ℕ) (y at a : ℕ) (ys : List (List ℕ)) → Laid o at x m a → at + length (joined (x ∷ (y ∷ []) ∷ ys)) ≤ length o → a + 1 ≤ length m
second-byte o m x y at a ys p l = second-room o m x (y ∷ []) at a ys p l

pub third-byte : (o m k x y : List ℕ) (z at a b : ℕ) (zs : List (List ℕ)) → Laid m a y k b → Laid o at x m a
    → at + length (joined (x ∷ y ∷ (z ∷ []) ∷ zs)) ≤ length o → b + 1 ≤ length k
third-byte o m k x y z at a b zs q p l = third-room o m k x y (z ∷ []) at a b zs q p l

pub fourth-byte : (o m k h x y z : List ℕ) (u at a b c : ℕ) (us : List (List ℕ)) → Laid k b z h c → Laid m a y k b → Laid o at x m a
    → at + length (joined (x ∷ y ∷ z ∷ (u ∷ []) ∷ us)) ≤ length o → c + 1 ≤ length h
fourth-byte o m k h x y z u at a b c us s q p l = fourth-room o m k h x y z (u ∷ []) at a b c us s q p l

pub ruleset pieces = (first-room, second-room, third-room, fourth-room, fifth-room, second-byte, third-byte, fourth-byte, two-laid, three-laid, four-laid, five-laid, rules)
