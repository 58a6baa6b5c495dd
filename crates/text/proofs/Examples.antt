-- Small texts, worked out by hand from the rules of the text form: what they say, or the exact byte of their first fault; and a text that is written.
-- Assumes nothing.
use mathlib.Core.Path.{◌≡◌, refl}
use mathlib.Core.List.{List, [], ◌∷◌, ◌++◌, map}
use Prim.Native.Nat.{ℕ}
use Rattle.base.specs.Tests.{pick, every, between}
use Rattle.ascii.specs.Words.{begins, same}
use Rattle.ascii.specs.Text.{bytes_of}
use Rattle.ascii.specs.Numbers.{is_digit, value_from, value}
use Rattle.ascii.specs.Decimals.{digits_of, decimal}
use Rattle.tokens.specs.Bytes.{is_blank, is_letter, is_escaped}
use Rattle.tokens.specs.Tokens.{onward, past_blanks, leading, behind, is_word, is_number, number, with_byte, label_from, label}
use Rattle.tokens.specs.Beats.{is_fraction, valued, fraction, beats}
use Rattle.tokens.specs.Quoted.{escaped, quoted}
use Rattle.page.specs.declared.Item.{Item}
use Rattle.items.specs.Items.{within_of}
use Rattle.score.specs.Piece.{Piece}
use Rattle.text.specs.Grammar.{past_word, named, entry, timed, parted, sent, opened, synchrony_at, error_at, erring, grouped, action, item, closed, line, further, deeper, shallower, after, may_end, is_over, follow, script_from, script}
use Rattle.text.specs.Said.{labels_of, durations_of, within, event_of, items_of, piece_of, Reading, piece, unread, told, said}
use Rattle.text.specs.Beats.{least_from, denominator, numerator, over, beats_text}
use Rattle.text.specs.Written.{synchrony_word, error_word, indent, remark, line_text, behind_line, text_of, item_lines, top_lines, part_line, later_events, page_lines, message_lines, lines, written}

abbrev action_item : (part delay event last : ℕ) → Item
action_item p d e n = record { kind = 0; synchrony = 0; error = 0; part = p; delay = record { 0 = d }; event = e; last = n }

abbrev group_item : (synchrony error part delay event last : ℕ) → Item
group_item s v p d e n = record { kind = 1; synchrony = s; error = v; part = p; delay = record { 0 = d }; event = e; last = n }

-- A text, and what it says.
abbrev Row : Type 0
Row = List ℕ × Reading

abbrev text_in : Row → List ℕ
text_in r = r.0

abbrev reading_in : Row → Reading
reading_in r = r.1

-- ---- texts that are read

-- An empty list; blanks and a comment; a part with no item, and the longest whole beats; then a page with every word, words left out, a group in a group, and no blank where none is needed.
abbrev read_rows : List Row
read_rows =
    (bytes_of "messages", piece (record { durations = []; items = []; labels = [] }))
    ∷ (bytes_of "\t messages # nothing else", piece (record { durations = []; items = []; labels = [] }))
    ∷ (bytes_of "messages 0 \"\" event 852176 part 99 event 852176", piece (record { durations = 4294967040 ∷ 4294967040 ∷ []; items = []; labels = [] ∷ [] }))
    ∷ (bytes_of "messages # the \"list\n  0 \"a\" 1 \"say \\\"b\\\" \\\\\"\nevent 4\n  part 2\n    1/2 group tight {\n      0 send 1\n      1 group causal { 2send 0 } # inner\n    }\n    1/3 send 0\n  part 15 0 group loose global { }\nevent 1/5040 part 0 0000000001 group partial{1group{}}", piece (record { durations = 20160 ∷ 1 ∷ []; items = group_item 1 0 2 2520 1 3 ∷ action_item 2 0 0 1 ∷ group_item 0 3 2 5040 0 1 ∷ action_item 2 10080 0 0 ∷ action_item 2 1680 1 0 ∷ group_item 0 1 15 0 1 0 ∷ group_item 0 2 0 5040 2 1 ∷ group_item 0 0 0 5040 0 0 ∷ []; labels = bytes_of "a" ∷ bytes_of "say \"b\" \\" ∷ [] }))
    ∷ []

pub texts-read : map (λ r. said (text_in r)) read_rows ≡ map reading_in read_rows
unfolding pick every between begins same value_from value is_blank is_digit is_letter is_escaped onward past_blanks leading behind is_word is_number number with_byte label_from label is_fraction valued fraction beats past_word named entry timed parted sent opened synchrony_at error_at erring grouped action item closed line further deeper shallower after may_end is_over follow script_from script labels_of durations_of within event_of items_of piece_of told said
texts-read = refl

-- ---- faults, each at its exact byte

-- The list: no text at all, another word, no list; a number that isn't its own; text that ends too soon; a label's newline, escape and end; 11 digits.
abbrev list_faults : List Row
list_faults =
    (bytes_of "", unread 0)
    ∷ (bytes_of "message", unread 0)
    ∷ (bytes_of "\n event 1", unread 2)
    ∷ (bytes_of "messages x", unread 9)
    ∷ (bytes_of "messages 1 \"a\"", unread 9)
    ∷ (bytes_of "messages 0 \"a\" 2 \"b\"", unread 15)
    ∷ (bytes_of "messages 0", unread 10)
    ∷ (bytes_of "messages 0 a", unread 11)
    ∷ (bytes_of "messages 0 \"a\n\"", unread 13)
    ∷ (bytes_of "messages 0 \"a\\n\"", unread 14)
    ∷ (bytes_of "messages 0 \"a\\", unread 14)
    ∷ (bytes_of "messages 0 \"a", unread 13)
    ∷ (bytes_of "messages 00000000000 \"a\"", unread 9)
    ∷ (bytes_of "messages 0 \"a\" part 0", unread 15)
    ∷ []

pub list-faults : map (λ r. said (text_in r)) list_faults ≡ map reading_in list_faults
unfolding pick every between begins same value_from value is_blank is_digit is_letter is_escaped onward past_blanks leading behind is_word is_number number with_byte label_from label is_fraction valued fraction beats past_word named entry timed parted sent opened synchrony_at error_at erring grouped action item closed line further deeper shallower after may_end is_over follow script_from script labels_of durations_of within event_of items_of piece_of told said
list-faults = refl

-- Events and parts: beats of 0, of no whole number of grains, with a blank within, too big for their field; what must stand between; the end.
abbrev event_faults : List Row
event_faults =
    (bytes_of "messages event\n", unread 15)
    ∷ (bytes_of "messages event 1/0", unread 15)
    ∷ (bytes_of "messages event 1/11", unread 15)
    ∷ (bytes_of "messages event 1/ 2", unread 17)
    ∷ (bytes_of "messages event 1/", unread 17)
    ∷ (bytes_of "messages event 1/4294967296", unread 17)
    ∷ (bytes_of "messages event 4294967296", unread 15)
    ∷ (bytes_of "messages event 852177", unread 15)
    ∷ (bytes_of "messages event 00000000001", unread 15)
    ∷ (bytes_of "messages event 1 1 send 0", unread 17)
    ∷ (bytes_of "messages event 1 part 256", unread 22)
    ∷ (bytes_of "messages event 1 part", unread 21)
    ∷ (bytes_of "messages event 1/1/1", unread 18)
    ∷ (bytes_of "messages event 1 0 \"a\"", unread 17)
    ∷ []

pub event-faults : map (λ r. said (text_in r)) event_faults ≡ map reading_in event_faults
unfolding pick every between begins same value_from value is_blank is_digit is_letter is_escaped onward past_blanks leading behind is_word is_number number with_byte label_from label is_fraction valued fraction beats past_word named entry timed parted sent opened synchrony_at error_at erring grouped action item closed line further deeper shallower after may_end is_over follow script_from script labels_of durations_of within event_of items_of piece_of told said
event-faults = refl

-- Items: words that aren't there, numbers that go on or are too big, words out of order, braces, and the end within a group.
abbrev item_faults : List Row
item_faults =
    (bytes_of "messages 0 \"a\" event 1 part 0 1 sen", unread 32)
    ∷ (bytes_of "messages 0 \"a\" event 1 part 0 send 0", unread 30)
    ∷ (bytes_of "messages 0 \"a\" event 1 part 0 1 sendX", unread 36)
    ∷ (bytes_of "messages 0 \"a\" event 1 part 0 1 send", unread 36)
    ∷ (bytes_of "messages 0 \"a\" event 1 part 0 1 send 0/1", unread 38)
    ∷ (bytes_of "messages 0 \"a\" event 1 part 0 1/ 2", unread 32)
    ∷ (bytes_of "messages 0 \"a\" event 1 part 0 1 send 65536", unread 37)
    ∷ (bytes_of "messages 0 \"a\" event 1 part 0 1 group 0", unread 38)
    ∷ (bytes_of "messages 0 \"a\" event 1 part 0 1 group loose loose {", unread 44)
    ∷ (bytes_of "messages 0 \"a\" event 1 part 0 1 group local tight {", unread 44)
    ∷ (bytes_of "messages 0 \"a\" event 1 part 0 1 group tight causa {", unread 44)
    ∷ (bytes_of "messages 0 \"a\" event 1 part 0 }", unread 30)
    ∷ (bytes_of "messages 0 \"a\" event 1 part 0 1 group { } }", unread 42)
    ∷ (bytes_of "messages 0 \"a\" event 1 part 0 1 group { part 1 }", unread 40)
    ∷ (bytes_of "messages 0 \"a\" event 1 part 0 1 group { 0 send 0", unread 48)
    ∷ (bytes_of "messages 0 \"a\" event 1 part 0 1 group { # not closed\n", unread 53)
    ∷ (bytes_of "messages 0 \"a\" event 1 part 0 1 group { 1 group { } event 1", unread 52)
    ∷ []

pub item-faults : map (λ r. said (text_in r)) item_faults ≡ map reading_in item_faults
unfolding pick every between begins same value_from value is_blank is_digit is_letter is_escaped onward past_blanks leading behind is_word is_number number with_byte label_from label is_fraction valued fraction beats past_word named entry timed parted sent opened synchrony_at error_at erring grouped action item closed line further deeper shallower after may_end is_over follow script_from script labels_of durations_of within event_of items_of piece_of told said
item-faults = refl

-- ---- a text that is written: every kind of line, a part that changes and one that stands, an event with no item, and a label with both escapes

abbrev page : Piece
page =
    record {
      durations = 20160 ∷ 7560 ∷ 5040000 ∷ [];
      items = group_item 1 3 0 2520 1 3 ∷ action_item 0 0 0 1 ∷ group_item 0 1 0 1680 0 1 ∷ action_item 0 5040 0 0 ∷ action_item 3 1 1 0 ∷ action_item 3 8640 1 0 ∷ action_item 3 840 2 1 ∷ group_item 0 2 3 0 2 0 ∷ [];
      labels = bytes_of "a" ∷ bytes_of "b \"\\" ∷ [];
    }

abbrev page_text : List ℕ
page_text =
    bytes_of "messages\n"
    ++ (bytes_of "  0 \"a\"\n"
    ++ (bytes_of "  1 \"b \\\"\\\\\"\n"
    ++ (bytes_of "event 4 # 1\n"
    ++ (bytes_of "  part 0\n"
    ++ (bytes_of "    1/2 group tight causal {\n"
    ++ (bytes_of "      0 send 1 # b \"\\\n"
    ++ (bytes_of "      1/3 group loose global {\n"
    ++ (bytes_of "        1 send 0 # a\n"
    ++ (bytes_of "      }\n"
    ++ (bytes_of "    }\n"
    ++ (bytes_of "  part 3\n"
    ++ (bytes_of "    1/5040 send 0 # a\n"
    ++ (bytes_of "    12/7 send 0 # a\n"
    ++ (bytes_of "event 3/2 # 2\n"
    ++ (bytes_of "  part 3\n"
    ++ (bytes_of "    1/6 send 1 # b \"\\\n"
    ++ (bytes_of "    0 group loose partial {\n"
    ++ (bytes_of "    }\n"
    ++ (bytes_of "event 1000 # 3\n")))))))))))))))))))

pub page-written : written page ≡ page_text
unfolding pick digits_of decimal least_from denominator numerator over beats_text is_escaped escaped quoted within_of synchrony_word error_word indent remark line_text behind_line text_of item_lines top_lines part_line later_events page_lines message_lines lines written
page-written = refl
