-- Lines of files, worked out by the definitions.
-- Assumes nothing.
use mathlib.Core.Path.{◌≡◌, refl}
use mathlib.Core.List.{List, [], ◌∷◌}
use Prim.Native.Nat.{ℕ}
use lib.ListN.{set}
use Rattle.ascii.specs.Text.{bytes_of}
use Rattle.base.specs.Tests.{pick, every, between}
use Rattle.base.specs.Ranges.{by_range}
use Rattle.base.specs.Checks.{need, first_fault}
use Rattle.base.specs.Only.{only}
use Rattle.ascii.specs.Decimals.{digits_of, decimal}
use Rattle.contents.specs.Bytes.{u16_at, u32_at, part}
use Rattle.contents.specs.Contents.{counts_of, offsets_of, counts_right, offsets_right}
use Rattle.contents.specs.Replies.{rule_row, fault_row}
use Rattle.items.specs.Items.{item_at, items_from, synchrony_right, error_right, part_right, in_order, event_right, nesting_right, number_right, actions_right, item_right, within_of, own_of, next, inside, onward, on_from, walk_of, walked, walk_fault, items_right}
use Rattle.messages.specs.Messages.{label_byte, readable, message_right, messages_right}
use Rattle.score.specs.Events.{durations_at, events_right}
use Rattle.score.specs.Piece.{decode}
use Rattle.score.specs.File.{bodies_right, checked}
use Rattle.session.specs.Replies.{refusal_row}
use Rattle.wording.specs.Words.{rule_words, fault_words, refusal_words, fault_placed, placed}
use Rattle.contents.specs.Entries.{entry_at}
use Rattle.refusals.specs.Entries.{entry_of, field_words, is_entry, name_words, entry_words, rule_field, fault_field, refusal_field, named_words}
use Rattle.refusals.specs.Line.{at_byte, place_words, where_words, refusal_line}
use Rattle.checking.specs.Tallies.{actions_in, uses, parts_in}
use Rattle.checking.specs.Checked.{listed, parts_told, counts_told, accepted_line, line_by, checked_line}

-- The file of examples/small, as docs/FORMAT.md has it byte by byte.
unfoldable pub small : List ℕ
small =
    32 ∷ 0 ∷ 0 ∷ 0 ∷ 3 ∷ 0 ∷ 0 ∷ 0
    ∷ 44 ∷ 0 ∷ 0 ∷ 0 ∷ 3 ∷ 0 ∷ 0 ∷ 0
    ∷ 80 ∷ 0 ∷ 0 ∷ 0 ∷ 2 ∷ 0 ∷ 0 ∷ 0
    ∷ 88 ∷ 0 ∷ 0 ∷ 0 ∷ 2 ∷ 0 ∷ 0 ∷ 0
    ∷ 96 ∷ 39 ∷ 0 ∷ 0
    ∷ 176 ∷ 19 ∷ 0 ∷ 0
    ∷ 176 ∷ 19 ∷ 0 ∷ 0
    ∷ 1 ∷ 1 ∷ 0 ∷ 0 ∷ 0 ∷ 0 ∷ 0 ∷ 0 ∷ 1 ∷ 0 ∷ 2 ∷ 0
    ∷ 0 ∷ 0 ∷ 0 ∷ 0 ∷ 176 ∷ 19 ∷ 0 ∷ 0 ∷ 0 ∷ 0 ∷ 0 ∷ 0
    ∷ 0 ∷ 0 ∷ 0 ∷ 0 ∷ 136 ∷ 29 ∷ 0 ∷ 0 ∷ 0 ∷ 0 ∷ 1 ∷ 0
    ∷ 0 ∷ 0 ∷ 1 ∷ 0
    ∷ 1 ∷ 0 ∷ 1 ∷ 0
    ∷ 97 ∷ 98
    ∷ []

pub small-accepted : checked_line (bytes_of "small") small ≡ bytes_of "small: accepted, 3 events, 3 items, 2 actions, 2 messages, parts 0\n"
unfolding small checked_line line_by checked bodies_right counts_of offsets_of u16_at u32_at counts_right offsets_right events_right durations_at items_right walked walk_of onward on_from walk_fault item_right synchrony_right error_right part_right event_right in_order nesting_right number_right actions_right within_of own_of next inside item_at items_from messages_right message_right readable label_byte by_range part decode first_fault need every between pick accepted_line counts_told listed parts_told actions_in uses parts_in only decimal digits_of refusal_line where_words place_words at_byte refusal_row fault_row rule_row refusal_words fault_words rule_words placed fault_placed entry_of entry_at is_entry name_words entry_words field_words named_words refusal_field fault_field rule_field
small-accepted = refl

-- The same with one byte of an item changed, for each rule but the last: the group, at byte 44, then its two actions, at 56 and 68.
unfoldable pub changed : (at byte : ℕ) → List ℕ
changed at byte = checked_line (bytes_of "small") (set small at byte)

pub small-bad-items : changed 44 2
    ∷ changed 45 2
    ∷ changed 46 4
    ∷ changed 57 1
    ∷ changed 58 3
    ∷ changed 47 16
    ∷ changed 71 1
    ∷ changed 63 1
    ∷ changed 52 0
    ∷ changed 52 4
    ∷ changed 76 1
    ∷ changed 54 3
    ∷ changed 78 2
    ∷ []
    ≡ bytes_of "small: refused 20 at byte 44, item 0, kind: an item's kind, not 0 or 1\n"
    ∷ bytes_of "small: refused 21 at byte 45, item 0, synchrony: an item's words, out of range or not 0 on an action\n"
    ∷ bytes_of "small: refused 21 at byte 46, item 0, error word: an item's words, out of range or not 0 on an action\n"
    ∷ bytes_of "small: refused 21 at byte 57, item 1, synchrony: an item's words, out of range or not 0 on an action\n"
    ∷ bytes_of "small: refused 21 at byte 58, item 1, error word: an item's words, out of range or not 0 on an action\n"
    ∷ bytes_of "small: refused 22 at byte 47, item 0, part: an item's part, above 15 or not its group's\n"
    ∷ bytes_of "small: refused 22 at byte 71, item 2, part: an item's part, above 15 or not its group's\n"
    ∷ bytes_of "small: refused 23 at byte 60, item 1, delay: an item's delay, above 5,040,000 grains (1,000 beats)\n"
    ∷ bytes_of "small: refused 24 at byte 52, item 0, event: an item's event, out of range, out of order by event and part, or not 0 within a group\n"
    ∷ bytes_of "small: refused 24 at byte 52, item 0, event: an item's event, out of range, out of order by event and part, or not 0 within a group\n"
    ∷ bytes_of "small: refused 24 at byte 76, item 2, event: an item's event, out of range, out of order by event and part, or not 0 within a group\n"
    ∷ bytes_of "small: refused 25 at byte 54, item 0, last: an item's nesting, at depth 9 or a group that ends past what holds it\n"
    ∷ bytes_of "small: refused 26 at byte 78, item 2, last: an action's message number, not below the message count\n"
    ∷ []
unfolding small changed checked_line line_by checked bodies_right counts_of offsets_of u16_at u32_at counts_right offsets_right events_right durations_at items_right walked walk_of onward on_from walk_fault item_right synchrony_right error_right part_right event_right in_order nesting_right number_right actions_right within_of own_of next inside item_at items_from messages_right message_right readable label_byte by_range part decode first_fault need every between pick accepted_line counts_told listed parts_told actions_in uses parts_in only decimal digits_of refusal_line where_words place_words at_byte refusal_row fault_row rule_row refusal_words fault_words rule_words placed fault_placed entry_of entry_at is_entry name_words entry_words field_words named_words refusal_field fault_field rule_field
small-bad-items = refl
