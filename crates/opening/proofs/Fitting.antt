-- A lawful piece fits a session: its counts, its dates and the fields of its items have the room that the words give them.
-- Assumes nothing.
use mathlib.Core.Path.{◌≡◌, refl, ap₂}
use mathlib.Core.List.{List, [], ◌∷◌, map}
use Prim.Native.Nat.{ℕ, ◌+◌, ◌≤◌}
use native.Mathlib.Omega.{arith}
use lib.ListN.{length}
use Rattle.page.specs.declared.Item.{Item}
use Rattle.base.proofs.TestLaws.{between-high}
use Rattle.base.specs.Checks.{fine}
use Rattle.contents.specs.declared.Fault.TheVariants.{BadEvent}
use Rattle.contents.specs.Limits.{event_size, longest}
use Rattle.contents.specs.Contents.{events_at}
use Rattle.contents.specs.Inner.{Counted}
use Rattle.items.specs.Ranged.{Ranged}
use Rattle.score.specs.Events.{events_right}
use Rattle.score.specs.Piece.{Piece, decode}
use Rattle.score.specs.File.{Accepted}
use Rattle.score.specs.Encode.{counts_in, Lawful}
use Rattle.base.proofs.CheckLaws.{first_holds, first_head, first_rest}
use Rattle.contents.proofs.ContentsLaws.{counts-held}
use Rattle.items.proofs.Ranges.{Ranges, none as no_item, more as more_items, table-ranges}
use Rattle.score.proofs.EncodingFiles.{decode-lawful}
use Rattle.fates.specs.Fields.{item_in, item_word}
use Rattle.fates.proofs.FieldLaws.{item-kept}
use Rattle.opening.proofs.StartLaws.{AtMost, none, more}

pub record Fits (p : Piece) : Type 0 where
  pub some : 1 ≤ length p.durations
  pub events : length p.durations ≤ 256
  pub items : length p.items ≤ 2048
  pub dates : AtMost longest p.durations
  pub read : map item_in (map item_word p.items) ≡ p.items

right-short : (at : ℕ) (ds : List ℕ) → events_right at ds ≡ fine → AtMost longest ds
unfolding events_right
right-short at [] e = none
right-short at (d ∷ ds) e =
    more (between-high 1 longest d (first_holds _ (BadEvent at) _ e)) (right-short (at + event_size) ds (first_head _ _ (first_rest _ _ e)))

ranged-read : (i : Item) → Ranged i → item_in (item_word i) ≡ i
ranged-read i r =
    item-kept i (record {
      kind = r.kind;
      synchrony = r.synchrony;
      error = r.error;
      part = r.part;
      delay = omega (arith, r.delay);
      event = r.event;
      last = r.last;
    })

pub ranges-read : {is : List Item} → Ranges is → map item_in (map item_word is) ≡ is
ranges-read no_item = refl
ranges-read (more_items {i} {is} r rs) = ap₂ (λ (x : Item) (l : List Item). x ∷ l) (ranged-read i r) (ranges-read rs)

pub lawful-fits : (p : Piece) → Lawful p → Fits p
unfolding counts_in
lawful-fits p l =
    let c : Counted (counts_in p) = counts-held (counts_in p) l.counts in
    record {
      some = c.some;
      events = c.events;
      items = c.items;
      dates = right-short events_at p.durations l.durations;
      read = ranges-read (table-ranges (counts_in p) p.items c c.items l.items);
    }

pub accepted-fits : (f : List ℕ) → Accepted f → Fits (decode f)
accepted-fits f a = lawful-fits (decode f) (decode-lawful f a)
