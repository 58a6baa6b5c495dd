-- The line of an extended score that is refused: name, number, place, item and words, laid one behind the other.
-- Assumes nothing.
use mathlib.Core.Path.{◌≡◌, refl}
use mathlib.Core.List.{List, ◌++◌}
use Prim.Native.Nat.{ℕ, zero, suc, ◌+◌, ◌-◌, ◌*◌, ◌/◌, ◌<◌, ◌≤◌}
use native.Mathlib.Omega.{arith}
use lib.ListN.{length}
use borrow.Author.Rules.{rules}
use borrow.Author.Tests.{le-leb, lt-leb}
use Rattle.std.specs.Prelude.{Result, None}
use Rattle.base.specs.Tests.{pick}
use Rattle.ascii.specs.Decimals.{decimal}
use Rattle.ascii.specs.Text.{bytes_of}
use Rattle.ascii.specs.Laying.{Laid}
use Rattle.ascii.proofs.LayLaws.{laid-join, laid-nothing}
use Rattle.extended.specs.declared.Extent.{Extent}
use Rattle.extended.specs.Layout.{extended_contents, folded_size, extent_of, items_start}
use Rattle.unfolding.specs.declared.UnfoldError.{UnfoldError}
use Rattle.wording.specs.declared.Row.TheVariants.{Unfold}
use Rattle.wording.specs.Words.{row_number, row_words}
use Rattle.hints.specs.Hints.{hint_words}
use Rattle.refusals.specs.Texts.{row_refused, row_end}
use Rattle.contents.specs.declared.entries.Entry.{Entry}
use Rattle.contents.specs.declared.entries.Entry.TheVariants.{Nowhere, Item}
use Rattle.refusals.specs.Entries.{comma, entry_words, entry_room}
use Rattle.refusals.specs.Line.{at_byte, place_room}
use Rattle.refusals.specs.Unfolds.{folded_entry, folded_place, folded_where, folded_end, folded_line}

-- ---- the item

pub entry-short : (f : List ℕ) (place : ℕ) → length f < extended_contents → Nowhere ≡ folded_entry f place
unfolding folded_entry pick
entry-short f place p = rw (lt-leb extended_contents (length f) p)

module _ (f : List ℕ) (place start : ℕ) (c : Extent) (long : extended_contents ≤ length f) (e : c ≡ extent_of f) (s : start ≡ items_start c) where
  pub entry-before : place < start → Nowhere ≡ folded_entry f place
  unfolding folded_entry pick
  entry-before p =
      let q : place < items_start (extent_of f) = rw (s, e) at p in
      rw (le-leb extended_contents (length f) long, lt-leb (items_start (extent_of f)) place q)

  pub entry-item : start ≤ place → Item ((place - start) / folded_size) ≡ folded_entry f place
  unfolding folded_entry pick
  entry-item p =
      let q : items_start (extent_of f) ≤ place = rw (s, e) at p in
      rw (le-leb extended_contents (length f) long, le-leb (items_start (extent_of f)) place q, s, e)

pub ruleset folded-entries = (entry-short, entry-before, entry-item, rules)

-- An item's first byte names this item.
pub item-named : (f : List ℕ) (k : ℕ) → extended_contents ≤ length f → folded_entry f (items_start (extent_of f) + folded_size * k) ≡ Item k
unfolding folded_entry pick
item-named f k long =
    let q : (items_start (extent_of f) + folded_size * k - items_start (extent_of f)) / folded_size ≡ k = omega arith in
    rw (le-leb extended_contents (length f) long, le-leb (items_start (extent_of f)) (items_start (extent_of f) + folded_size * k) (omega arith), q)

-- ---- the place

pub place_none : (o f : List ℕ) (at place : ℕ) → place ≡ 0 → at + place_room + entry_room ≤ length o → Laid o at (folded_place f place) o at
unfolding folded_place
place_none o f at place e p = rw e (laid-nothing o at (omega arith))

pub place-told : (o m n f : List ℕ) (at a r place : ℕ) (entry : Entry) → (place ≡ 0 → ⊥) → entry ≡ folded_entry f place → Laid o at (bytes_of " at byte " ++ decimal place) m a
    → Laid m a (entry_words comma entry) n r → Laid o at (folded_place f place) n r
unfolding folded_place at_byte
place-told o m n f at a r zero entry z e p q = absurd (z refl)
place-told o m n f at a r (suc k) entry z e p q = rw (← e) (laid-join o m n _ _ at a r p q)

pub ruleset folded-places = (place_none, place-told, rules)

-- ---- the line

pub lay-folded : (o m₁ m₂ m₃ n name f : List ℕ) (a b d r : ℕ) (u : Result ℕ UnfoldError) → Laid o 0 name m₁ a → Laid m₁ a (row_refused (Unfold u)) m₂ b
    → Laid m₂ b (folded_where f u) m₃ d → Laid m₃ d (row_end (Unfold u) None) n r → Laid o 0 (folded_line name f u) n r
unfolding folded_line folded_end row_refused row_end row_number row_words hint_words
lay-folded o m₁ m₂ m₃ n name f a b d r u p q s t =
    laid-join o m₁ n _ _ 0 a r p (laid-join m₁ m₂ n _ _ a b r q (laid-join m₂ m₃ n _ _ b d r s t))

pub ruleset folded-lines = (lay-folded, rules)
