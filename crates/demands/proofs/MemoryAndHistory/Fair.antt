-- What the durations and the items of an accepted file come to, for a session of it: their numbers and fields are small, and its sequences have every action.
-- Assumes nothing.
use mathlib.Core.Path.{◌≡◌}
use Prim.Native.Nat.{ℕ, ◌≤◌}
use mathlib.Core.Bool.{Bool}
use mathlib.Core.List.{List}
use lib.ListN.{length}
use Rattle.page.specs.declared.Item.{Item}
use Rattle.contents.specs.Contents.{counts_of}
use Rattle.score.specs.Piece.{decode}
use Rattle.score.specs.File.{Accepted}
use Rattle.items.proofs.Ranges.{Ranges, table-ranges}
use Rattle.score.proofs.Accepted.{file-sized, file-items}
use Rattle.score.proofs.Decoded.{events-decoded}
use Rattle.rules.specs.Page.{entries}
use Rattle.rules.specs.Written.{actions_on}
use Rattle.rules.specs.Parts.{sounding_entries}
use Rattle.rules.proofs.Readings.{Within}
use Rattle.opening.proofs.Fitting.{accepted-fits}
use Rattle.demands.proofs.MemoryAndHistory.Shows.{actions_from}
use Rattle.demands.proofs.MemoryAndHistory.Runs.{accepted-within}
use Rattle.demands.proofs.MemoryAndHistory.Actions.{accepted-actions}

pub record Fair (ds : List ℕ) (is : List Item) : Type 0 where
  pub some : 1 ≤ length ds
  pub events : length ds ≤ 256
  pub items : length is ≤ 2048
  pub ranges : Ranges is
  pub within : Within (length ds) (entries is)
  pub actions : (S : ℕ → Bool) → actions_on (sounding_entries S (entries is)) ≡ actions_from S 0 is

pub accepted-fair : (f : List ℕ) → Accepted f → Fair (decode f).durations (decode f).items
accepted-fair f a =
    let fits = accepted-fits f a in
    record {
      some = fits.some;
      events = fits.events;
      items = fits.items;
      ranges = table-ranges (counts_of f) (decode f).items (file-sized f a).counted fits.items (file-items f a);
      within = rw (events-decoded f) (accepted-within f a);
      actions = accepted-actions f a;
    }
