-- Links followed, in the code's own terms.
-- Assumes nothing.
use mathlib.Core.Path.{◌≡◌, refl, sym, ap, ◌∙◌}
use mathlib.Core.Bool.{Bool, true, false, cond, not}
use mathlib.Core.List.{List}
use Prim.Native.Nat.{ℕ, ◌<◌, ◌≤◌}
use native.Mathlib.Omega.{arith}
use lib.Dec.{ltb}
use lib.IntN.{ℤ, pos}
use lib.ListN.{length, take}
use borrow.Author.Tests.{lt-ltb, le-ltb, ltb-true, ltb-false, not-false}
use borrow.Author.Rules.{rules}
use Rattle.std.specs.Prelude.{Option, Some, None, Result, Ok, Err}
use Rattle.links.specs.declared.looking.Kind.{Kind}
use Rattle.links.specs.declared.looking.Way.{Way}
use Rattle.links.specs.declared.looking.Way.TheVariants as way
use Rattle.links.specs.Looking.{way_of}
use Rattle.links.specs.Paths.{gone_to, next_path, Gone}
use Rattle.links.specs.Links.{is_link, turn_of, AtMost}

-- ---- whether a link is followed

module _ (k : Kind) (l : Bool) (is : l ≡ is_link k) where
  pub turn-none : (w : Way) (own : Bool) (n : ℕ) → w ≡ way_of k → l ≡ false → Some w ≡ turn_of k own n
  unfolding turn_of
  turn-none w own n e p = rw (sym is ∙ p) (ap Some e)

  pub turn-own : (w : Way) (own : Bool) (n : ℕ) → w ≡ way_of k → l ≡ true → own ≡ true → Some w ≡ turn_of k own n
  unfolding turn_of
  turn-own w own n e p q = rw (sym is ∙ p, q) (ap Some e)

  pub turn-follow : (own : Bool) (n : ℕ) → not l ≡ false → own ≡ false → n < 40 → None ≡ turn_of k own n
  unfolding turn_of
  turn-follow own n p q f = rw (sym is ∙ not-false l p, q, lt-ltb n 40 f)

  pub turn_many : (own : Bool) (n : ℕ) → not l ≡ false → own ≡ false → 40 ≤ n → Some (way.Barred (pos 40)) ≡ turn_of k own n
  unfolding turn_of
  turn_many own n p q f = rw (sym is ∙ not-false l p, q, le-ltb n 40 f)

pub ruleset turning = (turn-none, turn-own, turn-follow, turn_many, rules)

few-of : (w : Way) (a b c : Bool) → cond a (cond b (Some w) (cond c None (Some (way.Barred (pos 40))))) (Some w) ≡ None → c ≡ true
few-of w true true c p = let z : ◌≡◌ {A = ℕ} 0 1 = cc in absurd (omega arith)
few-of w true false true p = refl
few-of w true false false p = let z : ◌≡◌ {A = ℕ} 0 1 = cc in absurd (omega arith)
few-of w false b c p = let z : ◌≡◌ {A = ℕ} 0 1 = cc in absurd (omega arith)

-- a link is followed only where there were few before it
pub turn-few : (k : Kind) (own : Bool) (n : ℕ) (t : Option Way) → t ≡ turn_of k own n → (t ≡ None → n < 40)
unfolding turn_of
turn-few k own n t e p = ltb-true n 40 (few-of (way_of k) (is_link k) own (ltb n 40) (sym e ∙ p))

pub ruleset counting = (turn-few, rules)

-- ---- the path that is reached

gone-most : (n : ℕ) (b : Bool) → ltb 4095 n ≡ b → AtMost 4095 (cond b (Err (pos 36)) (Ok n))
gone-most n true p = tt
gone-most n false p = ltb-false 4095 n p

pub most-gone : (place target new : List ℕ) (size : ℕ) (r : Result ℕ ℤ) → Gone place size target new r → AtMost 4095 r
unfolding gone_to
most-gone place target new size r g = rw g.told (gone-most (length (next_path (take size place) target)) _ refl)

pub ruleset following = (most-gone, rules)
