-- What `unfold` says of an extended score, and how it ends.
use Rattle.std.specs.Prelude.{ℕ, List, [], leb, length, Result, Ok, Err}
use Rattle.base.specs.Tests.{pick}
use Rattle.contents.specs.declared.Counts.{Counts}
use Rattle.contents.specs.declared.Fault.{Fault}
use Rattle.contents.specs.declared.Fault.TheVariants.{FileShort, BadCount, BadOffset, BadLength, BadEvent, BadItem, BadMessage, TextLeft, NoMessage}
use Rattle.contents.specs.Limits.{most_items}
use Rattle.session.specs.declared.Refusal.TheVariants.{File}
use Rattle.streams.specs.declared.ending.Ending.{Ending}
use Rattle.streams.specs.declared.ending.Ending.TheVariants.{Done, Refused}
use Rattle.extended.specs.Layout.{extended_contents, extent_of}
use Rattle.unfolding.specs.declared.UnfoldError.{UnfoldError}
use Rattle.unfolding.specs.declared.UnfoldError.TheVariants.{NoRoom, BadExtended, OverLimit, BadFile}
use Rattle.refusals.specs.Texts.{unmade_line}
use Rattle.refusals.specs.Unfolds.{folded_line}

-- How many events the extended score has: the unfolded one has as many.
unfoldable pub events_folded : List ℕ → ℕ
events_folded f = pick (leb extended_contents (length f)) (extent_of f).events 0

-- By which counts the entry at fault is named. The unfolded score's items lie behind its events, and are at most 2,048; how many they are is not asked, so an item
-- is told by its page place and a message by its byte alone.
unfoldable pub items_told : Fault → ℕ
items_told FileShort = 0
items_told (BadCount at) = 0
items_told (BadOffset at) = 0
items_told BadLength = 0
items_told (BadEvent at) = 0
items_told (BadItem r at) = most_items
items_told (BadMessage at) = 0
items_told TextLeft = 0
items_told NoMessage = 0

unfoldable pub counts_folded : List ℕ → Fault → Counts
counts_folded f x = record { events = events_folded f; items = items_told x; messages = 0; text = 0 }

-- Nothing is said where it was granted. A fault of the unfolded file has its place there.
unfoldable pub unfold_line : (name extended : List ℕ) → Result ℕ UnfoldError → List ℕ
unfold_line name f (Ok n) = []
unfold_line name f (Err NoRoom) = folded_line name f (Err NoRoom)
unfold_line name f (Err (BadExtended place)) = folded_line name f (Err (BadExtended place))
unfold_line name f (Err OverLimit) = folded_line name f (Err OverLimit)
unfold_line name f (Err (BadFile x)) = unmade_line name (counts_folded f x) (File x)

-- "0 done, 1 refused"
unfoldable pub unfold_ending : Result ℕ UnfoldError → Ending
unfold_ending (Ok n) = Done
unfold_ending (Err NoRoom) = Refused
unfold_ending (Err (BadExtended place)) = Refused
unfold_ending (Err OverLimit) = Refused
unfold_ending (Err (BadFile x)) = Refused
