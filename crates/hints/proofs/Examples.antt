-- Small texts, worked out by hand: the byte at which each stops, and the hint of it. Each row of the table has one, and near misses have none or another.
-- Assumes nothing.
use Rattle.std.specs.Prelude.{Option, Some, None}
use mathlib.Core.Path.{◌≡◌, refl}
use mathlib.Core.List.{List, [], ◌∷◌, ◌++◌, map}
use Prim.Native.Nat.{ℕ}
use Prim.Native.String.{String}
use Rattle.base.specs.Tests.{pick, every, between}
use Rattle.ascii.specs.Text.{bytes_of}
use Rattle.ascii.specs.Words.{begins, same}
use Rattle.ascii.specs.Numbers.{is_digit, value_from, value}
use Rattle.contents.specs.declared.Fault.TheVariants.{FileShort, BadItem, BadMessage, NoMessage}
use Rattle.contents.specs.declared.ItemRule.TheVariants as rule
use Rattle.tokens.specs.Bytes.{is_blank, is_letter, is_escaped}
use Rattle.tokens.specs.Tokens.{left_by, onward, past_blanks, leading, behind, is_word, is_number, number, with_byte, label_from, label}
use Rattle.tokens.specs.Beats.{is_fraction, valued, fraction, beats}
use Rattle.text.specs.Grammar.{past_word, named, entry, timed, parted, sent, opened, synchrony_at, error_at, erring, grouped, action, item, closed, line, further, deeper, shallower, after, may_end, is_over, follow, script_from, script}
use Rattle.text.specs.Said.{Reading, unread, told, said}
use Rattle.hints.specs.declared.Hint.{Hint}
use Rattle.hints.specs.declared.Hint.TheVariants.{ByteOrderMark, Capitals, NoList, WordOrder, InnerPart, InnerEvent, Decimal, Mixed, Uneven, PastList}
use Rattle.hints.specs.Hints.{is_one_of, group_words, all_words, lowered, all_lowered, is_capital, byte_order_mark, is_point, is_got, is_fractional, is_first, is_mark, is_decimal, is_mixed, is_uneven, hint_at, rule_hint, fault_hint}

-- A text, the byte that can't be, and its hint.
abbrev Row : Type 0
Row = List ℕ × ℕ × Option Hint

abbrev text_in : Row → List ℕ
text_in r = r.0

abbrev stop_in : Row → Reading
stop_in r = unread r.1

abbrev hint_in : Row → Option Hint
hint_in r = r.2

abbrev hint_of : Row → Option Hint
hint_of r = hint_at r.0 r.1

-- Items that stand from byte 30 on.
abbrev items : String → List ℕ
items s = bytes_of "messages 0 \"a\" event 1 part 0 " ++ bytes_of s

-- ---- the rows of the table

abbrev hinted_rows : List Row
hinted_rows =
    (byte_order_mark ++ bytes_of "messages", 0, Some ByteOrderMark)
    ∷ (items "1 Send 0", 32, Some Capitals)
    ∷ (items "1 send 0 EVENT 1", 39, Some Capitals)
    ∷ (bytes_of "Messages 0 \"a\"", 0, Some Capitals)
    ∷ (bytes_of "event 1", 0, Some NoList)
    ∷ (bytes_of "", 0, Some NoList)
    ∷ (bytes_of "# no list\n 0 \"a\"", 11, Some NoList)
    ∷ (items "1 group causal tight {", 45, Some WordOrder)
    ∷ (items "1 tight group {", 32, Some WordOrder)
    ∷ (items "1 group { part 1 }", 40, Some InnerPart)
    ∷ (items "1 group { 1 send 0 event 1", 49, Some InnerEvent)
    ∷ (items "0.5 send 0", 31, Some Decimal)
    ∷ (bytes_of "messages event 1,000", 16, Some Decimal)
    ∷ (items "1 1/2 send 0", 32, Some Mixed)
    ∷ (items "1/11 send 0", 30, Some Uneven)
    ∷ (items "1 send 0 1/0 send 0", 39, Some Uneven)
    ∷ []

pub hinted-stop : map (λ r. said (text_in r)) hinted_rows ≡ map stop_in hinted_rows
unfolding pick every between begins same value_from value is_blank is_digit is_letter is_escaped onward past_blanks leading behind is_word is_number number with_byte label_from label is_fraction valued fraction beats past_word named entry timed parted sent opened synchrony_at error_at erring grouped action item closed line further deeper shallower after may_end is_over follow script_from script told said
hinted-stop = refl

pub hinted : map hint_of hinted_rows ≡ map hint_in hinted_rows
unfolding pick every between begins same value_from value is_blank is_digit is_letter onward past_blanks leading behind is_word is_number number is_fraction valued fraction beats is_one_of group_words all_words lowered all_lowered is_capital is_point is_got left_by is_fractional is_first is_mark is_decimal is_mixed is_uneven hint_at
hinted = refl

-- ---- near misses

-- A label without quotes; points and slashes that stand elsewhere; a byte behind a word; two spaces; a whole number that is too big; a mixed number whose fraction is at fault.
abbrev near_rows : List Row
near_rows =
    (bytes_of "messages 0 Gong", 11, None)
    ∷ (bytes_of "messages 0. \"a\"", 10, None)
    ∷ (items "1 /2 send 0", 32, None)
    ∷ (items "1 sendX", 36, None)
    ∷ (items "1  1/2 send 0", 33, None)
    ∷ (items "852177 send 0", 30, None)
    ∷ (items "1 send", 36, None)
    ∷ (items "1 1/11 send 0", 32, Some Uneven)
    ∷ []

pub near-stop : map (λ r. said (text_in r)) near_rows ≡ map stop_in near_rows
unfolding pick every between begins same value_from value is_blank is_digit is_letter is_escaped onward past_blanks leading behind is_word is_number number with_byte label_from label is_fraction valued fraction beats past_word named entry timed parted sent opened synchrony_at error_at erring grouped action item closed line further deeper shallower after may_end is_over follow script_from script told said
near-stop = refl

pub near : map hint_of near_rows ≡ map hint_in near_rows
unfolding pick every between begins same value_from value is_blank is_digit is_letter onward past_blanks leading behind is_word is_number number is_fraction valued fraction beats is_one_of group_words all_words lowered all_lowered is_capital is_point is_got left_by is_fractional is_first is_mark is_decimal is_mixed is_uneven hint_at
near = refl

-- ---- what the file check refuses

pub faults-hinted : map fault_hint (BadItem rule.Message 36 ∷ BadItem rule.Delay 36 ∷ BadItem rule.Actions 36 ∷ BadMessage 36 ∷ FileShort ∷ NoMessage ∷ [])
    ≡ Some PastList ∷ None ∷ None ∷ None ∷ None ∷ None ∷ []
unfolding rule_hint fault_hint
faults-hinted = refl
