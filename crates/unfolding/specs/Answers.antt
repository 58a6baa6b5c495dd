-- What comes of unfolding, and what then stands in the lent room.
use Rattle.std.specs.Prelude.{ℕ, List, ◌++◌, leb, length, drop, Result, Ok, Err}
use Rattle.base.specs.Tests.{pick}
use Rattle.base.specs.Checks.{Check, fine, refused}
use Rattle.contents.specs.declared.Fault.{Fault}
use Rattle.contents.specs.Limits.{longest_score}
use Rattle.score.specs.File.{checked}
use Rattle.extended.specs.Right.{extended_right}
use Rattle.unfolding.specs.declared.UnfoldError.{UnfoldError}
use Rattle.unfolding.specs.declared.UnfoldError.TheVariants.{NoRoom, BadExtended, OverLimit, BadFile}
use Rattle.unfolding.specs.Extended.{extended_of}
use Rattle.unfolding.specs.Sizes.{score_of, within_limits, file_of}

-- The file that an extended score unfolds to.
unfoldable pub unfolded_file : List ℕ → List ℕ
unfolded_file f = file_of (score_of (extended_of f))

-- "the unfolded file's check"
unfoldable pub judged : (made : List ℕ) → Check Fault → Result ℕ UnfoldError
judged made fine = Ok (length made)
judged made (refused x) = Err (BadFile x)

-- "17 for bad contents (place 0) or a bad loop or curve (its first byte), 18 (place 0) when the unfolded file would break a limit"
unfoldable pub answered : List ℕ → Check ℕ → Result ℕ UnfoldError
answered f (refused place) = Err (BadExtended place)
answered f fine = pick (within_limits (score_of (extended_of f))) (judged (unfolded_file f) (checked (unfolded_file f))) (Err OverLimit)

-- "Refusals, in this order before the unfolded file's check: 2 for a file room as in (i)": "under 52,256 bytes".
unfoldable pub unfold_answer : (room : ℕ) → (extended : List ℕ) → Result ℕ UnfoldError
unfold_answer room f = pick (leb longest_score room) (answered f (extended_right f)) (Err NoRoom)

-- What was made stands at the front of the room and the bytes past it stay; a refusal leaves every byte.
unfoldable pub room_left : Result ℕ UnfoldError → (made room : List ℕ) → List ℕ
room_left (Ok n) made m = made ++ drop n m
room_left (Err NoRoom) made m = m
room_left (Err (BadExtended place)) made m = m
room_left (Err OverLimit) made m = m
room_left (Err (BadFile x)) made m = m
