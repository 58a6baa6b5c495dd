-- Of the two first faults the earlier decides: the items before it are right in both ways.
-- Assumes nothing.
use mathlib.Core.Path.{◌≡◌, refl, sym, ◌∙◌, ap, subst}
use mathlib.Core.Bool.{Bool, true, false, not}
use mathlib.Core.List.{List, [], ◌∷◌}
use Prim.Native.Nat.{ℕ, ◌+◌, ◌*◌, ◌<◌, ◌≤◌}
use native.Mathlib.Omega.{arith}
use lib.Dec.{ltb}
use lib.ListN.{length}
use borrow.Author.Rules.{rules}
use borrow.Author.Tests.{ltb-true, ltb-false}
use Rattle.std.specs.Prelude.{Ok, Err}
use Rattle.base.specs.Tests.{every}
use Rattle.base.proofs.TestLaws.{every-pass, every-stop, told-true, told-false}
use Rattle.extended.specs.declared.Extent.{Extent}
use Rattle.extended.specs.Layout.{extended_contents, extent_of, items_start, folded_size, contents_right}
use Rattle.extended.specs.Right.{own_right, item_of, ends_within, extended_right}
use Rattle.extended.specs.Inner.{SmallExtent}
use Rattle.extended.proofs.RightLaws.{contents-long, contents-whole}
use Rattle.folding.specs.Answers.{folding_of}
use Rattle.folding.specs.Inner.{Tabled, points_left, FirstWrong, FirstOverrun}
use Rattle.folding.proofs.AnswerLaws.{answers-wrong, answers-right}
use Rattle.folding.proofs.RightLaws.{extended-bad, extended-stop, extended-left, extended-used}

pub contents-wrong : (f : List ℕ) (b : Bool) → b ≡ contents_right f → not b ≡ true → Err 0 ≡ folding_of (extended_right f)
contents-wrong f b e h = answers-wrong _ 0 (extended-bad f (told-false b _ e h))

pub contents-known : (f : List ℕ) (b : Bool) → b ≡ contents_right f → not b ≡ false → extended_contents ≤ length f
contents-known f b e h = contents-long f (told-true b _ e h)

pub tabled : (f : List ℕ) (c : Extent) (b : Bool) → b ≡ contents_right f → not b ≡ false → c ≡ extent_of f → SmallExtent c → Tabled f c
tabled f c b e h p s = record { counts = p; small = s; whole = rw p (contents-whole f (told-true b _ e h)) }

module _ (f : List ℕ) (c : Extent) (b : Bool) (k r left : ℕ) (told : b ≡ contents_right f) (test : not b ≡ false) (counts : c ≡ extent_of f) (wrong : FirstWrong f c r left) (over : FirstOverrun f r k) where
  own-before : (j : ℕ) → j < k → own_right (item_of f j) (points_left f j) ≡ true
  own-before j p = let m : k ≤ r = over.within in wrong.first j (omega arith)

  items-same : c.items ≡ (extent_of f).items
  items-same = ap (λ (x : Extent). x.items) counts

  bad-here : k < c.items → every (own_right (item_of f k) (points_left f k) ∷ ends_within f k k ∷ []) ≡ false
  bad-here l = go (ltb k r) refl where
    go : (t : Bool) → ltb k r ≡ t → every (own_right (item_of f k) (points_left f k) ∷ ends_within f k k ∷ []) ≡ false
    go true t = let p : k < r = ltb-true k r t in sym (every-pass _ false _ (wrong.first k p) (every-stop _ _ (over.there p)))
    go false t =
        let p : r ≤ k = ltb-false k r t in
        let m : k ≤ r = over.within in
        let same : r ≡ k = omega arith in
        sym (every-stop _ _ (subst (λ (x : ℕ). own_right (item_of f x) (points_left f x) ≡ false) same (wrong.there (omega arith))))

  pub item-wrong : (s : ℕ) → s ≡ items_start c → k < c.items → Err (s + folded_size * k) ≡ folding_of (extended_right f)
  item-wrong s e l =
      let start : s ≡ items_start (extent_of f) = rw counts at e in
      let n = items-same in
      answers-wrong _ _ (rw start (extended-stop f (told-true b _ told test) k own-before over.first (omega arith) (bad-here l)))

  last-reached : c.items ≤ k → k ≡ (extent_of f).items
  last-reached l =
      let n = items-same in
      let m : k ≤ r = over.within in
      let o : r ≤ c.items = wrong.most in
      omega arith

  left-same : c.items ≤ k → length (points_left f k) ≡ left
  left-same l =
      let m : k ≤ r = over.within in
      let o : r ≤ c.items = wrong.most in
      let same : r ≡ k = omega arith in
      subst (λ (x : ℕ). length (points_left f x) ≡ left) same wrong.points

  pub points-wrong : c.items ≤ k → (left ≡ 0 → ⊥) → Err 0 ≡ folding_of (extended_right f)
  points-wrong l n = answers-wrong _ 0 (extended-left f (told-true b _ told test) k own-before over.first (last-reached l) (λ e. n (sym (left-same l) ∙ e)))

  pub all_right : c.items ≤ k → left ≡ 0 → Ok tt ≡ folding_of (extended_right f)
  all_right l z = answers-right _ (extended-used f (told-true b _ told test) k own-before over.first (last-reached l) (left-same l ∙ z))

pub ruleset checking = (contents-wrong, contents-known, tabled, item-wrong, points-wrong, all_right, rules)
