-- What the readers for the layers above ask and answer: event k + 1 and the item at page place p of an accepted file.
use Rattle.std.specs.Prelude.{◌≡◌, ℕ, ◌≤◌, ◌<◌, List, get_or}
use Rattle.units.specs.declared.Grains.{Grains}
use Rattle.page.specs.declared.Item.{Item}
use Rattle.contents.specs.Limits.{longest}
use Rattle.contents.specs.Contents.{counts_of}
use Rattle.items.specs.Ranged.{Ranged, blank}
use Rattle.score.specs.Piece.{decode}
use Rattle.score.specs.File.{Accepted}

pub record EventIn (f : List ℕ) (k : ℕ) : Type 0 where
  pub accepted : Accepted f
  pub below : k < (counts_of f).events

pub record EventRead (f : List ℕ) (k : ℕ) (r : Grains) : Type 0 where
  pub read : r.0 ≡ get_or (decode f).durations k 0
  pub some : 1 ≤ r.0
  pub short : r.0 ≤ longest

pub record ItemIn (f : List ℕ) (p : ℕ) : Type 0 where
  pub accepted : Accepted f
  pub below : p < (counts_of f).items

pub record ItemRead (f : List ℕ) (p : ℕ) (r : Item) : Type 0 where
  pub read : r ≡ get_or (decode f).items p blank
  pub ranged : Ranged r
