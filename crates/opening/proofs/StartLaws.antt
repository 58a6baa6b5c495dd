-- The starts that a new session is given are E(1), E(2) and so on, and each fits its 31 bits.
-- Assumes nothing.
use mathlib.Core.Path.{◌≡◌, refl, ap}
use mathlib.Core.List.{List, [], ◌∷◌}
use Prim.Native.Nat.{ℕ, zero, suc, ◌+◌, ◌*◌, ◌<◌, ◌≤◌}
use native.Mathlib.Omega.{arith}
use lib.ListN.{length, get_or}
use Rattle.contents.specs.Limits.{longest}
use Rattle.rules.specs.Score.{total, E}
use Rattle.opening.specs.Opening.{starts_of}

pub starts-length : (sum : ℕ) (ds : List ℕ) → length (starts_of sum ds) ≡ length ds
unfolding starts_of
starts-length sum [] = refl
starts-length sum (d ∷ ds) = ap suc (starts-length (sum + d) ds)

pub starts-at : (sum : ℕ) (ds : List ℕ) (k : ℕ) → k < length ds → get_or (starts_of sum ds) k 0 ≡ sum + total ds k
unfolding starts_of total
starts-at sum [] k l = absurd (omega arith)
starts-at sum (d ∷ ds) zero l = omega arith
starts-at sum (d ∷ ds) (suc k) l = omega (arith, starts-at (sum + d) ds k (omega arith))

-- Durations of at most so many grains each.
pub data AtMost (most : ℕ) : List ℕ → Type 0 where
  none : AtMost most []
  more : {d : ℕ} {ds : List ℕ} → d ≤ most → AtMost most ds → AtMost most (d ∷ ds)

pub total-bound : (most : ℕ) {ds : List ℕ} → AtMost most ds → (k : ℕ) → total ds k ≤ k * most
unfolding total
total-bound most none zero = omega arith
total-bound most none (suc k) = omega arith
total-bound most (more p r) zero = omega arith
total-bound most (more p r) (suc k) = omega (arith, total-bound most r k)

-- E(k) of at most 256 events fits 31 bits.
pub start_small : {ds : List ℕ} → AtMost longest ds → (k : ℕ) → k ≤ 256 → E ds k < 2147483648
unfolding E
start_small r zero l = omega (arith, total-bound longest r 0)
start_small r (suc k) l = omega (arith, total-bound longest r k)
