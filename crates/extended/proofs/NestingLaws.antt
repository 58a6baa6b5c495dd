-- An item ends within the table and within all that hold it, or past one of them: what the test says, and what makes it hold.
-- By recursion on how many of the items before it are looked at. Assumes nothing.
use mathlib.Core.Path.{◌≡◌, refl, sym, subst}
use mathlib.Core.Bool.{Bool, true, false}
use mathlib.Core.List.{List}
use Prim.Native.Nat.{ℕ, zero, suc, ◌<◌, ◌≤◌}
use native.Mathlib.Omega.{arith}
use lib.Dec.{ltb, leb}
use borrow.Author.Tests.{ltb-true, ltb-false, leb-true, lt-ltb, le-leb}
use Rattle.base.specs.Tests.{pick}
use Rattle.base.proofs.TestLaws.{every-pass, every-last, every-head, every_rest}
use Rattle.extended.specs.Layout.{extent_of}
use Rattle.extended.specs.Right.{end_of, ends_within}

module _ (f : List ℕ) where
  pub end_after : (k : ℕ) → k < end_of f k
  unfolding end_of
  end_after k = omega arith

  -- ---- from the answer

  pub ends-table : (k m : ℕ) → ends_within f k m ≡ true → end_of f k ≤ (extent_of f).items
  unfolding ends_within
  ends-table k zero e = leb-true _ _ e
  ends-table k (suc m) e = ends-table k m (every-head _ _ (every_rest _ _ e))

  holder-says : (k m : ℕ) → pick (ltb k (end_of f m)) (leb (end_of f k) (end_of f m)) true ≡ true → k < end_of f m → end_of f k ≤ end_of f m
  unfolding pick
  holder-says k m e p = leb-true _ _ (rw (lt-ltb k (end_of f m) p) at e)

  pub ends-holder : (k m i : ℕ) → ends_within f k m ≡ true → i < m → k < end_of f i → end_of f k ≤ end_of f i
  unfolding ends_within
  ends-holder k zero i e p q = absurd (omega arith)
  ends-holder k (suc m) i e p q =
      go (ltb i m) refl (λ l. ends-holder k m i (every-head _ _ (every_rest _ _ e)) l q) (holder-says k m (every-head _ _ e)) where
        go : (t : Bool) → ltb i m ≡ t → (i < m → end_of f k ≤ end_of f i) → (k < end_of f m → end_of f k ≤ end_of f m) → end_of f k ≤ end_of f i
        go true t on last = on (ltb-true i m t)
        go false t on last =
            let l : m ≤ i = ltb-false i m t in
            let same : i ≡ m = omega arith in
            subst (λ (x : ℕ). end_of f k ≤ end_of f x) (sym same) (last (subst (λ (x : ℕ). k < end_of f x) same q))

  -- ---- to the answer

  holder-right : (k m : ℕ) → (k < end_of f m → end_of f k ≤ end_of f m) → pick (ltb k (end_of f m)) (leb (end_of f k) (end_of f m)) true ≡ true
  unfolding pick
  holder-right k m h = go (ltb k (end_of f m)) refl where
    go : (t : Bool) → ltb k (end_of f m) ≡ t → pick t (leb (end_of f k) (end_of f m)) true ≡ true
    go true t = le-leb _ _ (h (ltb-true k (end_of f m) t))
    go false t = refl

  pub ends-within : (k m : ℕ) → end_of f k ≤ (extent_of f).items → ((i : ℕ) → i < m → k < end_of f i → end_of f k ≤ end_of f i) → ends_within f k m ≡ true
  unfolding ends_within
  ends-within k zero p h = le-leb _ _ p
  ends-within k (suc m) p h =
      sym (every-pass _ true _ (holder-right k m (h m (omega arith))) (every-last _ true (sym (ends-within k m p (λ i q. h i (omega arith))))))

  not_within : (k : ℕ) → (ends_within f k k ≡ true → ⊥) → ends_within f k k ≡ false
  not_within k n = go (ends_within f k k) refl where
    go : (t : Bool) → ends_within f k k ≡ t → ends_within f k k ≡ false
    go true e = absurd (n e)
    go false e = e

  pub past-table : (k : ℕ) → (extent_of f).items < end_of f k → ends_within f k k ≡ false
  past-table k p = not_within k (λ e. let q = ends-table k k e in omega arith)

  pub past-holder : (k i : ℕ) → i < k → k < end_of f i → end_of f i < end_of f k → ends_within f k k ≡ false
  past-holder k i p q r = not_within k (λ e. let s = ends-holder k k i e p q in omega arith)
