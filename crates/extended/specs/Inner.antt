-- What is known of numbers that were read from bytes, and of a score that can be unfolded. No promise of a call needs it.
use Rattle.std.specs.Prelude.{◌≡◌, true, List, [], ◌∷◌, ℕ, ◌<◌, ◌≤◌, length}
use Rattle.base.specs.Tests.{pick}
use Rattle.values.specs.Curves.{Point}
use Rattle.extended.specs.declared.Extent.{Extent}
use Rattle.extended.specs.declared.Folded.{Folded}
use Rattle.extended.specs.Layout.{extended_contents, extent_of, items_start, points_start, whole_size}
use Rattle.extended.specs.Folds.{is_curve, folded_from}
use Rattle.extended.specs.Points.{points_from, points_after}
use Rattle.extended.specs.Right.{own_right}

-- A number of 32 bits is below this.
abbrev pub word_range : ℕ
word_range = 4294967296

pub record SmallExtent (c : Extent) : Type 0 where
  pub events : c.events < word_range
  pub items : c.items < word_range
  pub messages : c.messages < word_range
  pub text : c.text < word_range
  pub points : c.points < word_range

pub record SmallFolded (i : Folded) : Type 0 where
  pub kind : i.item.kind < 256
  pub synchrony : i.item.synchrony < 256
  pub error : i.item.error < 256
  pub part : i.item.part < 256
  pub delay : i.item.delay.0 < word_range
  pub event : i.item.event < 65536
  pub last : i.item.last < 65536
  pub each : i.each < word_range
  pub times : i.times < 65536

-- How many points an item takes.
unfoldable pub points_of : Folded → ℕ
points_of i = pick (is_curve i) i.times 0

-- Each item is right by itself, with the points that those before it leave.
pub data Folds : List Point → List Folded → Type 0 where
  all_folds : {ps : List Point} → Folds ps []
  fold : {ps : List Point} {i : Folded} {is : List Folded} → own_right i ps ≡ true → Folds (points_after i ps) is → Folds ps (i ∷ is)

-- These are the counts of an extended score that can be unfolded.
pub record Foldable (f : List ℕ) (c : Extent) : Type 0 where
  pub counts : c ≡ extent_of f
  pub small : SmallExtent c
  pub contents : extended_contents ≤ length f
  pub whole : length f ≡ whole_size c
  pub folds : Folds (points_from f (points_start c) c.points) (folded_from f (items_start c) c.items)
