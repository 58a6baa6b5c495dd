-- What the inner functions say of a score whose contents are right. No promise of a call needs it.
use Rattle.std.specs.Prelude.{◌≡◌, Bool, true, false, List, [], ◌∷◌, ℕ, zero, suc, ◌<◌, ◌≤◌, eqb, length}
use Rattle.base.specs.Tests.{every}
use Rattle.contents.specs.Bytes.{u32_at}
use Rattle.values.specs.Curves.{Point}
use Rattle.extended.specs.declared.Extent.{Extent}
use Rattle.extended.specs.Layout.{extent_of, events_start, items_start, messages_start, text_start, points_start, whole_size}
use Rattle.extended.specs.Points.{points_from, points_after}
use Rattle.extended.specs.Right.{own_right, item_of, end_of, ends_within}
use Rattle.extended.specs.Inner.{SmallExtent}
pub use Rattle.extended.specs.Inner.{points_of}

-- The offsets and the length of a file with these counts.
unfoldable pub tables_right : List ℕ → Extent → Bool
tables_right f c =
    every (
    eqb (u32_at f 0) events_start
    ∷ eqb (u32_at f 8) (items_start c)
    ∷ eqb (u32_at f 16) (messages_start c)
    ∷ eqb (u32_at f 24) (text_start c)
    ∷ eqb (u32_at f 32) (points_start c)
    ∷ eqb (length f) (whole_size c)
    ∷ []
    )

-- These are the counts of a score whose contents are right.
pub record Tabled (f : List ℕ) (c : Extent) : Type 0 where
  pub counts : c ≡ extent_of f
  pub small : SmallExtent c
  pub whole : length f ≡ whole_size c

-- The points that the first k items leave.
unfoldable pub points_left : List ℕ → ℕ → List Point
points_left f zero = points_from f (points_start (extent_of f)) (extent_of f).points
points_left f (suc k) = points_after (item_of f k) (points_left f k)

-- The first item that is wrong by itself, or the number after the last; those before it leave so many points.
pub record FirstWrong (f : List ℕ) (c : Extent) (r left : ℕ) : Type 0 where
  pub most : r ≤ c.items
  pub points : length (points_left f r) ≡ left
  pub there : r < c.items → own_right (item_of f r) (points_left f r) ≡ false
  pub first : (k : ℕ) → k < r → own_right (item_of f k) (points_left f k) ≡ true

-- The first item below most that ends past the table or past an item that holds it, or most.
pub record FirstOverrun (f : List ℕ) (most r : ℕ) : Type 0 where
  pub within : r ≤ most
  pub there : r < most → ends_within f r r ≡ false
  pub first : (k : ℕ) → k < r → ends_within f k k ≡ true

-- From item s on, each item's end is the next one and none is past stop, until stop or limit is reached.
pub data Hops (f : List ℕ) (stop limit : ℕ) : ℕ → Type 0 where
  at_stop : {s : ℕ} → stop ≤ s → Hops f stop limit s
  at_limit : {s : ℕ} → limit ≤ s → Hops f stop limit s
  hop : {s : ℕ} → end_of f s ≤ stop → Hops f stop limit (end_of f s) → Hops f stop limit s

-- What a row of hops from an item up to stop finds: r is limit, or the first of them that ends past stop.
pub record Hopped (f : List ℕ) (from stop limit r : ℕ) : Type 0 where
  pub clean : Hops f stop r from
  pub most : r ≤ limit
  pub later : r < limit → from ≤ r
  pub held : r < limit → r < stop
  pub past : r < limit → stop < end_of f r
