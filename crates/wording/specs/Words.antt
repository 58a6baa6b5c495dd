-- The reply table for people, row by row, and the whole of it.
use Rattle.std.specs.Prelude.{ℕ, zero, suc, Bool, true, false, List, [], ◌∷◌, ◌++◌, Result, Ok, Err}
use Rattle.ascii.specs.Words.{space, newline}
use Rattle.ascii.specs.Decimals.{decimal}
use Rattle.contents.specs.declared.Fault.{Fault}
use Rattle.contents.specs.declared.Fault.TheVariants.{FileShort, BadCount, BadOffset, BadLength, BadEvent, BadItem, BadMessage, TextLeft, NoMessage}
use Rattle.contents.specs.declared.ItemRule.{ItemRule}
use Rattle.contents.specs.declared.ItemRule.TheVariants as rule
use Rattle.session.specs.declared.Refusal.{Refusal}
use Rattle.session.specs.declared.Refusal.TheVariants.{MemoryShort, RoomShort, File, BadTempo, BadGrace, NoSession, NoEvent, NotAfter, BadMillis, ClockFull}
use Rattle.session.specs.Replies.{refusal_row}
use Rattle.text.specs.declared.TextError.{TextError}
use Rattle.text.specs.declared.TextError.TheVariants.{NoRoom, BadText, BadFile}
use Rattle.text.specs.Replies.{transcript_row}
use Rattle.unfolding.specs.declared.UnfoldError.{UnfoldError}
use Rattle.unfolding.specs.declared.UnfoldError.TheVariants as unfolds
use Rattle.unfolding.specs.Replies.{unfold_row}
use Rattle.wording.specs.declared.Row.{Row}
use Rattle.wording.specs.declared.Row.TheVariants.{Call, Text, Unfold}
use Rattle.ascii.specs.Text.{bytes_of}

-- The words of an item's rules, which are ours. Synchrony and error word share a row.
unfoldable pub rule_words : ItemRule → List ℕ
rule_words rule.Kind = bytes_of "an item's kind, not 0 or 1"
rule_words rule.Synchrony = bytes_of "an item's words, out of range or not 0 on an action"
rule_words rule.ErrorWord = bytes_of "an item's words, out of range or not 0 on an action"
rule_words rule.Part = bytes_of "an item's part, above 15 or not its group's"
rule_words rule.Delay = bytes_of "an item's delay, above 5,040,000 grains (1,000 beats)"
rule_words rule.Event = bytes_of "an item's event, out of range, out of order by event and part, or not 0 within a group"
rule_words rule.Nesting = bytes_of "an item's nesting, at depth 9 or a group that ends past what holds it"
rule_words rule.Message = bytes_of "an action's message number, not below the message count"
rule_words rule.Actions = bytes_of "the 1,025th action"

-- The words of the table's column 'When', letter for letter.
unfoldable pub fault_words : Fault → List ℕ
fault_words FileShort = bytes_of "file under 32 bytes"
fault_words (BadCount at) = bytes_of "a count outside its limits"
fault_words (BadOffset at) = bytes_of "an offset not as above"
fault_words BadLength = bytes_of "offsets right, file length wrong"
fault_words (BadEvent at) = bytes_of "an event's duration"
fault_words (BadItem r at) = rule_words r
fault_words (BadMessage at) = bytes_of "a message entry or its label bytes"
fault_words TextLeft = bytes_of "entries right, text not used up"
fault_words NoMessage = bytes_of "no such message"

unfoldable pub refusal_words : Refusal → List ℕ
refusal_words MemoryShort = bytes_of "session memory under 8,192 words (u64)"
refusal_words RoomShort = bytes_of "send room under 2,048 words (u64)"
refusal_words (File x) = fault_words x
refusal_words BadTempo = bytes_of "tempo outside 1 to 50,400"
refusal_words BadGrace = bytes_of "grace above 630"
refusal_words NoSession = bytes_of "not a session"
refusal_words NoEvent = bytes_of "event number 0 or above the last"
refusal_words NotAfter = bytes_of "event not after the last one heard"
refusal_words BadMillis = bytes_of "milliseconds outside 1 to 1,000"
refusal_words ClockFull = bytes_of "the clock would pass 10^15"

-- "0 | done", the row that is no refusal.
abbrev pub done_number : ℕ
done_number = 0

abbrev pub done_words : List ℕ
done_words = bytes_of "done"

-- What comes of a text that is read, or of a file that is written as one.
unfoldable pub transcript_words : Result ℕ TextError → List ℕ
transcript_words (Ok n) = done_words
transcript_words (Err NoRoom) = bytes_of "file room under 52,256 bytes, text room too short"
transcript_words (Err (BadText l c)) = bytes_of "text against the grammar"
transcript_words (Err (BadFile x)) = fault_words x

-- "17 for bad contents (place 0) or a bad loop or curve (its first byte)": a group or an action may be at fault as well. Points left over have place 0, too.
unfoldable pub extended_words : (place : ℕ) → List ℕ
extended_words zero = bytes_of "bad extended contents; also points left over"
extended_words (suc place) = bytes_of "an item that can't be unfolded"

-- What comes of an extended score that is unfolded. "2 for a file room as in (i)", "18 (place 0) when the unfolded file would break a limit"
unfoldable pub unfolding_words : Result ℕ UnfoldError → List ℕ
unfolding_words (Ok n) = done_words
unfolding_words (Err unfolds.NoRoom) = transcript_words (Err NoRoom)
unfolding_words (Err (unfolds.BadExtended place)) = extended_words place
unfolding_words (Err unfolds.OverLimit) = bytes_of "the unfolded score would break a limit"
unfolding_words (Err (unfolds.BadFile x)) = fault_words x

-- The longest of them are those of an item's event.
abbrev pub most_words : ℕ
most_words = 86

-- Whether the table's column 'Place' names a byte of the file. BadOffset at byte 0 does, BadLength with the same number and place does not.
unfoldable pub fault_placed : Fault → Bool
fault_placed FileShort = false
fault_placed (BadCount at) = true
fault_placed (BadOffset at) = true
fault_placed BadLength = false
fault_placed (BadEvent at) = true
fault_placed (BadItem r at) = true
fault_placed (BadMessage at) = true
fault_placed TextLeft = true
fault_placed NoMessage = false

unfoldable pub placed : Refusal → Bool
placed MemoryShort = false
placed RoomShort = false
placed (File x) = fault_placed x
placed BadTempo = false
placed BadGrace = false
placed NoSession = false
placed NoEvent = false
placed NotAfter = false
placed BadMillis = false
placed ClockFull = false

-- A row's number and its words.
unfoldable pub row_number : Row → ℕ
row_number (Call x) = (refusal_row x).number
row_number (Text t) = (transcript_row t).number
row_number (Unfold u) = (unfold_row u).number

unfoldable pub row_words : Row → List ℕ
row_words (Call x) = refusal_words x
row_words (Text t) = transcript_words t
row_words (Unfold u) = unfolding_words u

-- Every row of the table in its order, behind the first; where a row's place is a number, any stands for it.
unfoldable pub reply_rows : List Row
reply_rows =
    Call MemoryShort
    ∷ Call RoomShort
    ∷ Text (Err NoRoom)
    ∷ Call (File FileShort)
    ∷ Call (File (BadCount 4))
    ∷ Call (File (BadOffset 0))
    ∷ Call (File BadLength)
    ∷ Call (File (BadEvent 32))
    ∷ Call (File (BadMessage 36))
    ∷ Call (File TextLeft)
    ∷ Call BadTempo
    ∷ Call NoSession
    ∷ Call NoEvent
    ∷ Call NotAfter
    ∷ Call BadMillis
    ∷ Call ClockFull
    ∷ Call (File NoMessage)
    ∷ Text (Err (BadText 1 1))
    ∷ Unfold (Err (unfolds.BadExtended 0))
    ∷ Unfold (Err (unfolds.BadExtended 40))
    ∷ Unfold (Err unfolds.OverLimit)
    ∷ Call BadGrace
    ∷ Call (File (BadItem rule.Kind 36))
    ∷ Call (File (BadItem rule.Synchrony 36))
    ∷ Call (File (BadItem rule.Part 36))
    ∷ Call (File (BadItem rule.Delay 36))
    ∷ Call (File (BadItem rule.Event 36))
    ∷ Call (File (BadItem rule.Nesting 36))
    ∷ Call (File (BadItem rule.Message 36))
    ∷ Call (File (BadItem rule.Actions 36))
    ∷ []

-- How many they are, and the first of them.
abbrev pub row_count : ℕ
row_count = 30

abbrev pub first_row : Row
first_row = Call MemoryShort

-- A row's line: its number and its words, as `6 an event's duration`.
unfoldable pub reply_line : (number : ℕ) (words : List ℕ) → List ℕ
reply_line number words = decimal number ++ (space ∷ (words ++ (newline ∷ [])))

-- Room for a row's line: a number of 20 digits, the longest words, and a space and a newline.
abbrev pub row_room : ℕ
row_room = 108

-- The lines of these rows, one behind the other.
unfoldable pub row_lines : List Row → List ℕ
row_lines [] = []
row_lines (x ∷ xs) = reply_line (row_number x) (row_words x) ++ row_lines xs

-- The whole table, a line for each row, and room for it.
unfoldable pub reply_lines : List ℕ
reply_lines = reply_line done_number done_words ++ row_lines reply_rows

abbrev pub replies_room : ℕ
replies_room = 4096
