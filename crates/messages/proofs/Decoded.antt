-- Laws of the decoded labels: how many there are, and which.
-- By recursion on the count. Assumes nothing.
use mathlib.Core.Path.{◌≡◌, refl, ap}
use mathlib.Core.List.{List}
use Prim.Native.Nat.{ℕ, zero, suc, ◌+◌, ◌*◌, ◌<◌}
use native.Mathlib.Omega.{arith}
use lib.ListN.{length, get_or}
use Rattle.contents.specs.declared.Counts.{Counts}
use Rattle.contents.specs.Limits.{message_size}
use Rattle.messages.specs.Messages.{label_at, labels_at}

module _ (f : List ℕ) where
  pub labels_length : (c : Counts) (at n : ℕ) → length (labels_at f c at n) ≡ n
  unfolding labels_at
  labels_length c at zero = refl
  labels_length c at (suc n) = ap suc (labels_length c (at + message_size) n)

  pub labels-at : (c : Counts) (at n k : ℕ) (d : List ℕ) → k < n → get_or (labels_at f c at n) k d ≡ label_at f c (at + message_size * k)
  unfolding labels_at
  labels-at c at zero k d p = absurd (omega arith)
  labels-at c at (suc n) zero d p = let z : at + message_size * 0 ≡ at = omega arith in rw z
  labels-at c at (suc n) (suc k) d p =
      let z : at + message_size * suc k ≡ at + message_size + message_size * k = omega arith in
      rw z (labels-at c (at + message_size) n k d (omega arith))
