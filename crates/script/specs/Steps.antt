-- What is asked of the functions that read a line: their answers in the words of the grammar.
use Rattle.std.specs.Prelude.{ℕ, ◌+◌, ◌<◌, ◌≤◌, ◌≡◌, true, List, ltb, length, drop, Option, Some, None, Result, Ok, Err}
use Rattle.base.specs.Tests.{pick}
use Rattle.tokens.specs.Bytes.{is_letter}
use Rattle.tokens.specs.Tokens.{Read, got, stop, behind, label, is_read, bytes_in}
use Rattle.tokens.specs.Beats.{field}
use Rattle.text.specs.Words.{message_field, part_field}
use Rattle.text.specs.Written.{error_word}
use Rattle.text.specs.Grammar.{Line, heading, message, event, part, send, group, close, past_word}
use Rattle.script.specs.declared.Found.{Found}
use Rattle.script.specs.declared.Found.TheVariants.{Heading, Message, Event, Part, Send, Group, Close}
use Rattle.script.specs.declared.Step.{Step}

-- A word of this size stands here.
pub record Stands (t : List ℕ) (at size : ℕ) : Type 0 where
  pub left : behind is_letter (drop at t) ≡ drop (at + size) t
  pub within : at + size ≤ length t

-- How many letters the error word of this number has.
unfoldable pub error_size : ℕ → ℕ
error_size v = length (error_word v)

-- The number of a word that was looked for: none from the number of no word on.
unfoldable pub known : (none n : ℕ) → Option ℕ
known none n = pick (ltb n none) (Some n) None

-- What is left behind a word, and the blanks behind it.
pub record PassesWord (t : List ℕ) (at r : ℕ) : Type 0 where
  pub left : past_word (drop at t) ≡ drop r t
  pub from : at ≤ r
  pub within : r ≤ length t

-- A fault at this byte.
abbrev pub fault_at : ℕ → Result Step ℕ
fault_at at = Err at

-- The line that was found in this text, and the bytes left behind it.
unfoldable pub line_of : List ℕ → Found → List ℕ → Read Line
line_of t Heading left = got heading left
line_of t (Message start size) left = got (message (bytes_in (label (drop start t)))) left
line_of t (Event g) left = got (event g) left
line_of t (Part n) left = got (part n) left
line_of t (Send d n) left = got (send d n) left
line_of t (Group d w v) left = got (group d w v) left
line_of t Close left = got close left

-- The line itself.
unfoldable pub line_in : List ℕ → Found → Line
line_in t Heading = heading
line_in t (Message start size) = message (bytes_in (label (drop start t)))
line_in t (Event g) = event g
line_in t (Part n) = part n
line_in t (Send d n) = send d n
line_in t (Group d w v) = group d w v
line_in t Close = close

unfoldable pub as_line : List ℕ → Result Step ℕ → Read Line
as_line t (Ok s) = line_of t s.found (drop s.next t)
as_line t (Err at) = stop (drop at t)

-- The byte behind the line, or the one at fault.
unfoldable pub ends_at : Result Step ℕ → ℕ
ends_at (Ok s) = s.next
ends_at (Err at) = at

-- What is found keeps to its fields, and a message's label is there.
pub data Fits (t : List ℕ) : Found → Type 0 where
  fits_heading : Fits t Heading
  fits_message : {start size : ℕ} → is_read (label (drop start t)) ≡ true → size ≡ length (bytes_in (label (drop start t))) → Fits t (Message start size)
  fits_event : {grains : ℕ} → grains < field → Fits t (Event grains)
  fits_part : {number : ℕ} → number < part_field → Fits t (Part number)
  fits_send : {delay number : ℕ} → delay < field → number < message_field → Fits t (Send delay number)
  fits_group : {delay synchrony error : ℕ} → delay < field → synchrony ≤ 1 → error ≤ 3 → Fits t (Group delay synchrony error)
  fits_close : Fits t Close

-- So does a line that is read.
pub data StepFits (t : List ℕ) : Result Step ℕ → Type 0 where
  fits_read : {s : Step} → Fits t s.found → StepFits t (Ok s)
  fits_fault : {at : ℕ} → StepFits t (Err at)

-- The answer says this, and lies within the text and its fields.
pub record Lines (t : List ℕ) (what : Read Line) (r : Result Step ℕ) : Type 0 where
  pub says : as_line t r ≡ what
  pub within : ends_at r ≤ length t
  pub fits : StepFits t r
