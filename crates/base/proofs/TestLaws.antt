-- Laws of the words for tests: what a test says of the answer, and what an answer says of each test.
-- Assumes nothing.
use mathlib.Core.Path.{◌≡◌, refl, sym, ◌∙◌}
use mathlib.Core.Bool.{Bool, true, false, not}
use mathlib.Core.List.{List, [], ◌∷◌, ◌++◌}
use Prim.Native.Nat.{ℕ, ◌<◌, ◌≤◌}
use native.Mathlib.Omega.{arith}
use lib.Dec.{leb}
use borrow.Author.Tests.{eq-eqb, ne_eqb, le-leb, lt-leb, le-ltb, lt-ltb, leb-true}
use Rattle.base.specs.Tests.{pick, every, between}

-- ---- from the tests to the answer

pub every-end : true ≡ every []
unfolding every
every-end = refl

pub every-pass : (b r : Bool) (bs : List Bool) → b ≡ true → r ≡ every bs → r ≡ every (b ∷ bs)
unfolding every
every-pass b r bs e p = rw e p

pub every-stop : (b : Bool) (bs : List Bool) → b ≡ false → false ≡ every (b ∷ bs)
unfolding every
every-stop b bs e = rw e

-- the last rule is the answer itself
pub every-last : (b r : Bool) → r ≡ b → r ≡ every (b ∷ [])
unfolding every
every-last true r p = p
every-last false r p = p

pub between_in : (lo hi x : ℕ) → lo ≤ x → x ≤ hi → between lo hi x ≡ true
unfolding between every
between_in lo hi x p q = rw (le-leb lo x p, le-leb x hi q)

pub between-under : (lo hi x : ℕ) → x < lo → between lo hi x ≡ false
unfolding between every
between-under lo hi x p = rw (lt-leb lo x p)

second-false : (b d : Bool) → d ≡ false → every (b ∷ d ∷ []) ≡ false
unfolding every
second-false true d e = rw e
second-false false d e = refl

pub between-over : (lo hi x : ℕ) → hi < x → between lo hi x ≡ false
unfolding between
between-over lo hi x p = second-false (leb lo x) (leb x hi) (lt-leb x hi p)

pub pick_true {ℓ} : {A : Type ℓ} (b : Bool) (r x y : A) → b ≡ true → r ≡ x → r ≡ pick b x y
unfolding pick
pick_true b r x y e p = rw e p

pub pick-false {ℓ} : {A : Type ℓ} (b : Bool) (r x y : A) → b ≡ false → r ≡ y → r ≡ pick b x y
unfolding pick
pick-false b r x y e p = rw e p

-- ---- from the answer to the tests

pub every-head : (b : Bool) (bs : List Bool) → every (b ∷ bs) ≡ true → b ≡ true
unfolding every
every-head true bs p = refl
every-head false bs p = p

pub every_rest : (b : Bool) (bs : List Bool) → every (b ∷ bs) ≡ true → every bs ≡ true
unfolding every
every_rest true bs p = p
every_rest false bs p = let z : ◌≡◌ {A = ℕ} 0 1 = cc in absurd (omega arith)

-- the tests of two lists
pub every-both : (bs cs : List Bool) → every (bs ++ cs) ≡ every (every bs ∷ every cs ∷ [])
unfolding every
every-both [] cs = every-last (every cs) (every cs) refl
every-both (true ∷ bs) cs = every-both bs cs
every-both (false ∷ bs) cs = refl

pub between-low : (lo hi x : ℕ) → between lo hi x ≡ true → lo ≤ x
unfolding between
between-low lo hi x p = leb-true _ _ (every-head _ _ p)

pub between-high : (lo hi x : ℕ) → between lo hi x ≡ true → x ≤ hi
unfolding between
between-high lo hi x p = leb-true _ _ (every-head _ _ (every_rest _ _ p))

-- ---- what a call told, and the code's test of it

pub told-true : (t b : Bool) → t ≡ b → not t ≡ false → b ≡ true
told-true true b e h = sym e
told-true false b e h = let z : ◌≡◌ {A = Bool} true false = h in sym e ∙ sym z

pub told-false : (t b : Bool) → t ≡ b → not t ≡ true → b ≡ false
told-false true b e h = sym e ∙ sym h
told-false false b e h = sym e

-- the tests of a chain, in the order of the code
pub ruleset tests =
    (every-end, every-pass, every-stop, every-last, between_in, between-under, between-over, pick_true, pick-false, eq-eqb, ne_eqb, le-leb, lt-leb, le-ltb, lt-ltb)

-- the answers of calls, in the order of the code
pub ruleset calls = (every-pass, every-stop, every-last, told-true, told-false)
