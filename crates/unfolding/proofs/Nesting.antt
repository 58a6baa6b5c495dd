-- What a score that can be unfolded says of its items: each holds only such as follow it there, whatever holds it, and so on within.
-- Assumes nothing.
use mathlib.Core.Path.{◌≡◌, refl}
use mathlib.Core.Bool.{true}
use mathlib.Core.List.{List}
use Prim.Native.Nat.{ℕ, ◌+◌, ◌<◌, ◌≤◌}
use native.Mathlib.Omega.{arith}
use Rattle.extended.specs.Layout.{extent_of}
use Rattle.extended.specs.Folds.{held_by}
use Rattle.extended.specs.Right.{item_of, end_of, ends_within}
use Rattle.extended.proofs.NestingLaws.{ends-table, ends-holder}

-- ---- the items from k up to stop: each ends by the stop, and within all that hold it

pub record Ends (f : List ℕ) (k stop : ℕ) : Type 0 where
  pub ends : (j : ℕ) → k ≤ j → j < stop → end_of f j ≤ stop
  pub held : (i j : ℕ) → k ≤ i → i < j → j < stop → j < end_of f i → end_of f j ≤ end_of f i

module _ (f : List ℕ) where
  pub end_is : (k : ℕ) → end_of f k ≡ k + (1 + held_by (item_of f k))
  unfolding end_of
  end_is k = refl

  pub ends-body : (k stop : ℕ) → k < stop → Ends f k stop → Ends f (k + 1) (k + 1 + held_by (item_of f k))
  ends-body k stop p a =
      let e = end_is k in
      let l : end_of f k ≤ stop = a.ends k (omega arith) p in
      record {
        ends = λ j q r. let h = a.held k j (omega arith) (omega arith) (omega arith) (omega arith) in omega arith;
        held = λ i j q r s t. a.held i j (omega arith) r (omega arith) t;
      }

  pub ends-rest : (k stop : ℕ) → Ends f k stop → Ends f (k + 1 + held_by (item_of f k)) stop
  ends-rest k stop a =
      record {
        ends = λ j q r. a.ends j (omega arith) r;
        held = λ i j q r s t. a.held i j (omega arith) r s t;
      }

  pub ends-all : ((k : ℕ) → k < (extent_of f).items → ends_within f k k ≡ true) → Ends f 0 (extent_of f).items
  ends-all nests =
      record {
        ends = λ j q r. ends-table f j j (nests j r);
        held = λ i j q r s t. ends-holder f j j i (nests j s) r t;
      }
