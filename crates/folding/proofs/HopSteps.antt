-- Where every item's row of hops is clean, every item ends within all that hold it: by going from the last holder to the first.
-- Assumes nothing.
use mathlib.Core.Path.{◌≡◌, refl, subst, ap}
use mathlib.Core.Bool.{Bool, true, false}
use mathlib.Core.List.{List}
use Prim.Native.Nat.{ℕ, zero, suc, ◌+◌, ◌*◌, ◌<◌, ◌≤◌}
use native.Mathlib.Omega.{arith}
use lib.Dec.{ltb}
use borrow.Author.Tests.{ltb-true, ltb-false}
use borrow.Author.Rules.{rules}
use Rattle.extended.specs.declared.Extent.{Extent}
use Rattle.extended.specs.declared.Folded.{Folded}
use Rattle.extended.specs.Layout.{extent_of, items_start, folded_size}
use Rattle.extended.specs.Folds.{folded_at, held_by}
use Rattle.extended.specs.Right.{item_of, end_of, ends_within}
use Rattle.extended.proofs.NestingLaws.{end_after, ends-within, past-table, past-holder}
use Rattle.folding.specs.Inner.{Tabled, FirstOverrun, Hops, at_stop, at_limit, hop, Hopped}

-- ---- an item's end

pub end_read : (f : List ℕ) (c : Extent) (k s r : ℕ) (i : Folded) → Tabled f c → s ≡ items_start c → i ≡ folded_at f (s + folded_size * k) → r ≡ held_by i → k + (1 + r) ≡ end_of f k
unfolding end_of item_of
end_read f c k s r i t a p q = rw (q, p, a, t.counts)

pub ruleset ending = (end_read, rules)

-- ---- rows of hops

hops-less : (f : List ℕ) (stop l m s : ℕ) → m ≤ l → Hops f stop l s → Hops f stop m s
hops-less f stop l m s p (at_stop q) = at_stop q
hops-less f stop l m s p (at_limit q) = let r : m ≤ s = omega arith in at_limit r
hops-less f stop l m s p (hop q h) = hop q (hops-less f stop l m (end_of f s) p h)

-- an item on the way, or within one that is, ends by the stop
along : (f : List ℕ) (stop limit k : ℕ) (s : ℕ) → ((i : ℕ) → s ≤ i → i < k → k < end_of f i → end_of f k ≤ end_of f i) → Hops f stop limit s → s ≤ k → k < limit → k < stop
    → end_of f k ≤ stop
along f stop limit k s deeper (at_stop q) a b c = absurd (omega arith)
along f stop limit k s deeper (at_limit q) a b c = absurd (omega arith)
along f stop limit k s deeper (hop q h) a b c =
    go (ltb s k) (ltb k (end_of f s)) refl refl (λ e. along f stop limit k (end_of f s) (λ i p. deeper i (omega (arith, end_after f s))) h e b c) where
      go : (t u : Bool) → ltb s k ≡ t → ltb k (end_of f s) ≡ u → (end_of f s ≤ k → end_of f k ≤ stop) → end_of f k ≤ stop
      go false u e g on =
          let l : k ≤ s = ltb-false s k e in
          let same : s ≡ k = omega arith in
          subst (λ (x : ℕ). end_of f x ≤ stop) same q
      go true true e g on =
          let l = deeper s (omega arith) (ltb-true s k e) (ltb-true k (end_of f s) g) in
          omega arith
      go true false e g on = on (ltb-false k (end_of f s) g)

module _ (f : List ℕ) (limit : ℕ) (rows : (k : ℕ) → k < limit → Hops f (end_of f k) limit (k + 1)) where
  held : (g i k : ℕ) → limit ≤ i + g → i < k → k < limit → k < end_of f i → end_of f k ≤ end_of f i
  held zero i k p q r s = absurd (omega arith)
  held (suc g) i k p q r s =
      along f (end_of f i) limit k (i + 1) (λ j a b c. held g j k (omega arith) b r c) (rows i (omega arith)) (omega arith) r s

  within-before : (k : ℕ) → Hops f (extent_of f).items limit 0 → limit ≤ (extent_of f).items → k < limit → ends_within f k k ≡ true
  within-before k top l p =
      ends-within f k k (along f (extent_of f).items limit k 0 (λ j a b c. held limit j k (omega arith) b p c) top (omega arith) p (omega arith)) (λ i q s. held limit i k (omega arith) q p s)

-- ---- the code's steps

-- The hops so far, whatever the limit: a row from item k on makes one from the first.
pub record Hopping (f : List ℕ) (from stop k : ℕ) : Type 0 where
  pub later : from ≤ k
  pub passed : (r : ℕ) → Hops f stop r k → Hops f stop r from

pub hopping-start : (f : List ℕ) (from stop : ℕ) → Hopping f from stop from
hopping-start f from stop = record { later = omega arith; passed = λ r h. h }

module _ (f : List ℕ) (from stop k : ℕ) (so_far : Hopping f from stop k) where
  pub hopped-limit : (limit : ℕ) → limit ≤ k → Hopped f from stop limit limit
  hopped-limit limit p =
      record { clean = so_far.passed limit (at_limit p); most = omega arith; later = λ q. absurd (omega arith); held = λ q. absurd (omega arith); past = λ q. absurd (omega arith) }

  pub hopped-stop : (limit : ℕ) → stop ≤ k → Hopped f from stop limit limit
  hopped-stop limit p =
      record { clean = so_far.passed limit (at_stop p); most = omega arith; later = λ q. absurd (omega arith); held = λ q. absurd (omega arith); past = λ q. absurd (omega arith) }

  pub hopped-past : (limit e : ℕ) → k < limit → k < stop → e ≡ end_of f k → stop < e → Hopped f from stop limit k
  hopped-past limit e l s q p =
      record { clean = so_far.passed k (at_limit (omega arith)); most = omega arith; later = λ x. so_far.later; held = λ x. s; past = λ x. omega arith }

  pub hopping-more : (e : ℕ) → e ≡ end_of f k → e ≤ stop → Hopping f from stop e
  hopping-more e q p =
      let a : from ≤ k = so_far.later in
      record { later = omega (arith, end_after f k); passed = λ r h. so_far.passed r (hop (omega arith) (subst (λ (x : ℕ). Hops f stop r x) q h)) }

pub ruleset hopping = (hopping-start, hopped-limit, hopped-stop, hopped-past, hopping-more, rules)

-- What is known when the first i items have gone through what they hold.
pub record Gone (f : List ℕ) (most limit i : ℕ) : Type 0 where
  pub fits : most ≤ (extent_of f).items
  pub within : limit ≤ most
  pub there : limit < most → ends_within f limit limit ≡ false
  pub top : Hops f (extent_of f).items limit 0
  pub rows : (k : ℕ) → k < i → k < limit → Hops f (end_of f k) limit (k + 1)

pub gone-start : (f : List ℕ) (c : Extent) (most r : ℕ) → Tabled f c → most ≤ c.items → Hopped f 0 c.items most r → Gone f most r 0
gone-start f c most r t l h =
    let same : c.items ≡ (extent_of f).items = ap (λ (x : Extent). x.items) t.counts in
    record {
      fits = omega arith;
      within = h.most;
      there = λ p. past-table f r (let q : c.items < end_of f r = h.past p in omega arith);
      top = subst (λ (x : ℕ). Hops f x r 0) same h.clean;
      rows = λ k p. absurd (omega arith);
    }

pub gone-small : (f : List ℕ) (c : Extent) (most limit i : ℕ) → Tabled f c → Gone f most limit i → limit ≤ c.items
gone-small f c most limit i t g =
    let same : c.items ≡ (extent_of f).items = ap (λ (x : Extent). x.items) t.counts in
    let a : most ≤ (extent_of f).items = g.fits in
    let b : limit ≤ most = g.within in
    omega arith

module _ (f : List ℕ) (most limit i : ℕ) (gone : Gone f most limit i) where
  pub gone-more : (stop r : ℕ) → stop ≡ end_of f i → Hopped f (i + 1) stop limit r → Gone f most r (i + 1)
  gone-more stop r e h =
      let m : r ≤ limit = h.most in
      let l : limit ≤ most = gone.within in
      record {
        fits = gone.fits;
        within = omega arith;
        there = there (ltb r limit) refl;
        top = hops-less f (extent_of f).items limit r 0 m gone.top;
        rows = λ k p q. row k p q (ltb k i) refl;
      }
    where
      there : (t : Bool) → ltb r limit ≡ t → r < most → ends_within f r r ≡ false
      there true t p =
          let s : r < limit = ltb-true r limit t in
          let a : i + 1 ≤ r = h.later s in
          let b : r < stop = h.held s in
          let c : stop < end_of f r = h.past s in
          past-holder f r i (omega arith) (omega arith) (omega arith)
      there false t p =
          let s : limit ≤ r = ltb-false r limit t in
          let m : r ≤ limit = h.most in
          let same : limit ≡ r = omega arith in
          subst (λ (x : ℕ). ends_within f x x ≡ false) same (gone.there (omega arith))

      row : (k : ℕ) → k < i + 1 → k < r → (t : Bool) → ltb k i ≡ t → Hops f (end_of f k) r (k + 1)
      row k p q true t =
          let m : r ≤ limit = h.most in
          hops-less f (end_of f k) limit r (k + 1) m (gone.rows k (ltb-true k i t) (omega arith))
      row k p q false t =
          let s : i ≤ k = ltb-false k i t in
          let same : i ≡ k = omega arith in
          let c : Hops f (end_of f i) r (i + 1) = subst (λ (x : ℕ). Hops f x r (i + 1)) e h.clean in
          subst (λ (x : ℕ). Hops f (end_of f x) r (x + 1)) same c

  pub gone-all : limit ≤ i → FirstOverrun f most limit
  gone-all p =
      let a : most ≤ (extent_of f).items = gone.fits in
      let b : limit ≤ most = gone.within in
      record {
        within = gone.within;
        there = gone.there;
        first = λ k q. within-before f limit (λ j s. gone.rows j (omega arith) s) k gone.top (omega arith) q;
      }

pub ruleset going = (gone-start, gone-small, gone-more, gone-all, rules)
