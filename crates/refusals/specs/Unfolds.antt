-- The line that tells people of an extended score that can't be unfolded, as `loops.ext: refused 17 at byte 72, item 1: an item that can't be unfolded`, or as
-- `loops.ext: refused 18: the unfolded score would break a limit`.
use Rattle.std.specs.Prelude.{ℕ, zero, suc, ◌-◌, ◌/◌, List, [], ◌∷◌, ◌++◌, leb, length, Result, Ok, Err}
use Rattle.base.specs.Tests.{pick}
use Rattle.ascii.specs.Words.{newline}
use Rattle.ascii.specs.Decimals.{decimal}
use Rattle.ascii.specs.Text.{bytes_of}
use Rattle.extended.specs.Layout.{extended_contents, folded_size, extent_of, items_start}
use Rattle.unfolding.specs.declared.UnfoldError.{UnfoldError}
use Rattle.unfolding.specs.declared.UnfoldError.TheVariants.{NoRoom, BadExtended, OverLimit, BadFile}
use Rattle.unfolding.specs.Replies.{unfold_row}
use Rattle.wording.specs.Words.{unfolding_words}
use Rattle.contents.specs.declared.entries.Entry.{Entry}
use Rattle.contents.specs.declared.entries.Entry.TheVariants.{Nowhere, Item}
use Rattle.refusals.specs.Entries.{comma, entry_words}
use Rattle.refusals.specs.Line.{at_byte}

-- The item that a byte behind the events lies in, by its page place, as it is counted in a score file.
unfoldable pub folded_entry : (extended : List ℕ) → (place : ℕ) → Entry
folded_entry f place =
    pick (leb extended_contents (length f))
    (pick (leb (items_start (extent_of f)) place) (Item ((place - items_start (extent_of f)) / folded_size)) Nowhere)
    Nowhere

-- The place in the extended score and its item. Bad contents have place 0, and none is told.
unfoldable pub folded_place : (extended : List ℕ) → (place : ℕ) → List ℕ
folded_place f zero = []
folded_place f (suc k) = at_byte (suc k) ++ entry_words comma (folded_entry f (suc k))

unfoldable pub folded_where : (extended : List ℕ) → Result ℕ UnfoldError → List ℕ
folded_where f (Ok n) = []
folded_where f (Err NoRoom) = []
folded_where f (Err (BadExtended place)) = folded_place f place
folded_where f (Err OverLimit) = []
folded_where f (Err (BadFile x)) = []

-- What is refused, then the table's row: number, place and words.
unfoldable pub folded_end : Result ℕ UnfoldError → List ℕ
folded_end u = bytes_of ": " ++ (unfolding_words u ++ (newline ∷ []))

unfoldable pub folded_line : (name extended : List ℕ) → Result ℕ UnfoldError → List ℕ
folded_line name f u = name ++ ((bytes_of ": refused " ++ decimal (unfold_row u).number) ++ (folded_where f u ++ folded_end u))
