-- Pieces whose numbers fit the fields of a file, lawful or not.
-- Assumes nothing.
use mathlib.Core.Path.{◌≡◌}
use mathlib.Core.List.{List, [], ◌∷◌}
use Prim.Native.Nat.{ℕ, ◌+◌, ◌<◌, ◌≤◌}
use native.Mathlib.Omega.{arith}
use Rattle.page.specs.declared.Item.{Item}
use Rattle.base.specs.Checks.{fine}
use Rattle.base.proofs.TestLaws.{between-high}
use Rattle.base.proofs.CheckLaws.{first_head, first_rest, first_holds}
use Rattle.contents.specs.declared.Fault.TheVariants.{BadEvent}
use Rattle.contents.specs.Limits.{event_size, longest}
use Rattle.contents.specs.Contents.{counts_right, events_at}
use Rattle.contents.proofs.ContentsLaws.{counts-held}
use Rattle.items.proofs.Ranges.{Ranges, none, more, table-ranges}
use Rattle.score.specs.Events.{events_right}
use Rattle.score.specs.Piece.{Piece}
use Rattle.score.specs.Encode.{counts_in, Lawful}

-- Each field of the item fits its bytes.
pub record Fitting (i : Item) : Type 0 where
  pub kind : i.kind < 256
  pub synchrony : i.synchrony < 256
  pub error : i.error < 256
  pub part : i.part < 256
  pub delay : i.delay.0 < 4294967296
  pub event : i.event < 65536
  pub last : i.last < 65536

pub data FitItems : List Item → Type 0 where
  no_item : FitItems []
  fit_item : {i : Item} {is : List Item} → Fitting i → FitItems is → FitItems (i ∷ is)

pub data FitDurations : List ℕ → Type 0 where
  no_duration : FitDurations []
  fit_duration : {d : ℕ} {ds : List ℕ} → d < 4294967296 → FitDurations ds → FitDurations (d ∷ ds)

-- Right counts, and every number fits its bytes: nothing of such a piece is lost in its file, lawful or not.
pub record Fielded (p : Piece) : Type 0 where
  pub counts : counts_right (counts_in p) ≡ fine
  pub durations : FitDurations p.durations
  pub items : FitItems p.items

-- ---- a lawful piece

durations-fit : (q : ℕ) (ds : List ℕ) → events_right q ds ≡ fine → FitDurations ds
unfolding events_right
durations-fit q [] e = no_duration
durations-fit q (d ∷ ds) e =
    let small : d ≤ longest = between-high _ _ _ (first_holds _ (BadEvent q) _ e) in
    fit_duration {d = d} (omega arith) (durations-fit (q + event_size) ds (first_head _ _ (first_rest _ _ e)))

items-fit : {is : List Item} → Ranges is → FitItems is
items-fit none = no_item
items-fit (more {i = i} r rs) =
    fit_item {i = i}
    (record {
      kind = omega (arith, r.kind);
      synchrony = omega (arith, r.synchrony);
      error = omega (arith, r.error);
      part = omega (arith, r.part);
      delay = omega (arith, r.delay);
      event = omega (arith, r.event);
      last = omega (arith, r.last);
    })
    (items-fit rs)

-- A lawful piece is one of them.
pub lawful-fielded : (p : Piece) → Lawful p → Fielded p
unfolding counts_in
lawful-fielded p l =
    let k = counts-held (counts_in p) l.counts in
    record {
      counts = l.counts;
      durations = durations-fit events_at p.durations l.durations;
      items = items-fit (table-ranges (counts_in p) p.items k k.items l.items);
    }
