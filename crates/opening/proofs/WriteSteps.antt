-- One turn of the loops that write the starts and the page: what is left to write after it comes to the same words as before it.
-- Assumes nothing.
use mathlib.Core.Path.{◌≡◌}
use mathlib.Core.List.{List, [], ◌∷◌, map}
use Prim.Native.Nat.{ℕ, ◌+◌, ◌<◌, ◌≤◌}
use native.Mathlib.Omega.{arith}
use native.Mathlib.Numerals.{add-one}
use lib.ListN.{length, get_or, set, drop, drop_of_length-le}
use lib.Seq.{drop-cons}
use Rattle.units.specs.declared.Grains.{Grains}
use Rattle.page.specs.declared.Item.{Item}
use Rattle.contents.specs.Contents.{counts_of}
use Rattle.items.specs.Ranged.{blank}
use Rattle.score.specs.Piece.{decode}
use Rattle.score.specs.Readers.{EventRead, ItemRead}
use Rattle.score.proofs.Decoded.{events-decoded, items-decoded}
use Rattle.fates.specs.Fields.{item_word}
use Rattle.opening.specs.Opening.{with_words, starts_of}

drop-next : {A : Type 0} (l : List A) (k : ℕ) (d x : A) → k < length l → x ≡ get_or l k d → drop k l ≡ x ∷ drop (k + 1) l
drop-next l k d x h e = rw (e, add-one) (drop-cons l k d h)

write-one : (at w : ℕ) (ws ws' m W : List ℕ) → ws ≡ w ∷ ws' → with_words at ws m ≡ W → with_words (at + 1) ws' (set m at w) ≡ W
unfolding with_words
write-one at w ws ws' m W e owed = rw e at owed

write-none : (at : ℕ) (ws m W : List ℕ) → ws ≡ [] → with_words at ws m ≡ W → m ≡ W
unfolding with_words
write-none at ws m W e owed = rw e at owed

-- ---- the starts of a file's events

module _ (f m W : List ℕ) (base sum k events : ℕ) (n : events ≡ (counts_of f).events) (owed : with_words (base + k) (starts_of sum (drop k (decode f).durations)) m ≡ W) where
  pub starts-end : events ≤ k → m ≡ W
  unfolding starts_of
  starts-end l =
      let all : length (decode f).durations ≤ k = omega (arith, events-decoded f) in
      write-none (base + k) _ m W (rw (drop_of_length-le (decode f).durations all)) owed

  pub starts-next : (d : Grains) → k < events → EventRead f k d
      → with_words (base + (k + 1)) (starts_of (sum + d.0) (drop (k + 1) (decode f).durations)) (set m (base + k) sum) ≡ W
  unfolding starts_of
  starts-next d l r =
      let more : k < length (decode f).durations = omega (arith, events-decoded f) in
      let next : base + (k + 1) ≡ base + k + 1 = omega arith in
      rw next (write-one (base + k) sum _ _ m W (rw (drop-next (decode f).durations k 0 d.0 more r.read)) owed)

-- ---- the words of a file's items

module _ (f m W : List ℕ) (base p items : ℕ) (n : items ≡ (counts_of f).items) (owed : with_words (base + p) (map item_word (drop p (decode f).items)) m ≡ W) where
  pub page_end : items ≤ p → m ≡ W
  page_end l =
      let all : length (decode f).items ≤ p = omega (arith, items-decoded f) in
      write-none (base + p) _ m W (rw (drop_of_length-le (decode f).items all)) owed

  pub page-next : (i : Item) (w : ℕ) → p < items → ItemRead f p i → w ≡ item_word i
      → with_words (base + (p + 1)) (map item_word (drop (p + 1) (decode f).items)) (set m (base + p) w) ≡ W
  page-next i w l r v =
      let more : p < length (decode f).items = omega (arith, items-decoded f) in
      let next : base + (p + 1) ≡ base + p + 1 = omega arith in
      rw next (write-one (base + p) w _ _ m W (rw (drop-next (decode f).items p blank i more r.read, v)) owed)
