-- Lines of refusals, and the entries of places, worked out by the definitions.
-- Assumes nothing.
use mathlib.Core.Path.{◌≡◌, refl}
use mathlib.Core.List.{List, [], ◌∷◌}
use Prim.Native.Nat.{ℕ}
use Rattle.std.specs.Prelude.{Err}
use Rattle.base.specs.Tests.{pick}
use Rattle.ascii.specs.Decimals.{digits_of, decimal}
use Rattle.ascii.specs.Text.{bytes_of}
use Rattle.contents.specs.declared.Counts.{Counts}
use Rattle.contents.specs.Bytes.{u16_at, u32_at}
use Rattle.contents.specs.Contents.{counts_of}
use Rattle.contents.specs.Replies.{rule_row, fault_row}
use Rattle.contents.specs.declared.Fault.TheVariants.{FileShort, BadCount, BadOffset, BadLength, BadEvent, BadItem, BadMessage, TextLeft}
use Rattle.contents.specs.declared.ItemRule.TheVariants as rule
use Rattle.session.specs.Replies.{refusal_row}
use Rattle.session.specs.declared.Refusal.TheVariants.{File, BadTempo}
use Rattle.contents.specs.declared.entries.Entry.TheVariants.{Nowhere, Contents, Event, Item, Message}
use Rattle.wording.specs.Words.{rule_words, fault_words, refusal_words, extended_words, unfolding_words, fault_placed, placed}
use Rattle.contents.specs.Entries.{entry_at}
use Rattle.refusals.specs.Entries.{entry_of, field_words, is_entry, name_words, entry_words, rule_field, fault_field, refusal_field, named_words}
use Rattle.refusals.specs.Line.{at_byte, place_words, where_words, refusal_line}
use Rattle.extended.specs.Layout.{extent_of}
use Rattle.unfolding.specs.declared.UnfoldError.TheVariants.{BadExtended, OverLimit}
use Rattle.unfolding.specs.Replies.{unfold_row}
use Rattle.refusals.specs.Unfolds.{folded_entry, folded_place, folded_where, folded_end, folded_line}

-- A file's contents: 3 events from byte 32 on, 7 items from 44 on, 2 messages from 128 on, 5 bytes of text from 136 on.
unfoldable pub contents : List ℕ
contents =
    32 ∷ 0 ∷ 0 ∷ 0 ∷ 3 ∷ 0 ∷ 0 ∷ 0
    ∷ 44 ∷ 0 ∷ 0 ∷ 0 ∷ 7 ∷ 0 ∷ 0 ∷ 0
    ∷ 128 ∷ 0 ∷ 0 ∷ 0 ∷ 2 ∷ 0 ∷ 0 ∷ 0
    ∷ 136 ∷ 0 ∷ 0 ∷ 0 ∷ 5 ∷ 0 ∷ 0 ∷ 0
    ∷ []

-- ---- lines

pub bad_kind : refusal_line (bytes_of "old.bin") contents (File (BadItem rule.Kind 116)) ≡ bytes_of "old.bin: refused 20 at byte 116, item 6, kind: an item's kind, not 0 or 1\n"
unfolding contents pick digits_of decimal u16_at u32_at counts_of rule_row fault_row refusal_row rule_words fault_words refusal_words fault_placed placed entry_at entry_of field_words is_entry name_words entry_words rule_field fault_field refusal_field named_words at_byte place_words where_words refusal_line
bad_kind = refl

pub bad-synchrony : refusal_line (bytes_of "old.bin") contents (File (BadItem rule.Synchrony 117)) ≡ bytes_of "old.bin: refused 21 at byte 117, item 6, synchrony: an item's words, out of range or not 0 on an action\n"
unfolding contents pick digits_of decimal u16_at u32_at counts_of rule_row fault_row refusal_row rule_words fault_words refusal_words fault_placed placed entry_at entry_of field_words is_entry name_words entry_words rule_field fault_field refusal_field named_words at_byte place_words where_words refusal_line
bad-synchrony = refl

pub bad-error : refusal_line (bytes_of "old.bin") contents (File (BadItem rule.ErrorWord 118)) ≡ bytes_of "old.bin: refused 21 at byte 118, item 6, error word: an item's words, out of range or not 0 on an action\n"
unfolding contents pick digits_of decimal u16_at u32_at counts_of rule_row fault_row refusal_row rule_words fault_words refusal_words fault_placed placed entry_at entry_of field_words is_entry name_words entry_words rule_field fault_field refusal_field named_words at_byte place_words where_words refusal_line
bad-error = refl

pub bad-part : refusal_line (bytes_of "old.bin") contents (File (BadItem rule.Part 119)) ≡ bytes_of "old.bin: refused 22 at byte 119, item 6, part: an item's part, above 15 or not its group's\n"
unfolding contents pick digits_of decimal u16_at u32_at counts_of rule_row fault_row refusal_row rule_words fault_words refusal_words fault_placed placed entry_at entry_of field_words is_entry name_words entry_words rule_field fault_field refusal_field named_words at_byte place_words where_words refusal_line
bad-part = refl

pub bad-delay : refusal_line (bytes_of "old.bin") contents (File (BadItem rule.Delay 120)) ≡ bytes_of "old.bin: refused 23 at byte 120, item 6, delay: an item's delay, above 5,040,000 grains (1,000 beats)\n"
unfolding contents pick digits_of decimal u16_at u32_at counts_of rule_row fault_row refusal_row rule_words fault_words refusal_words fault_placed placed entry_at entry_of field_words is_entry name_words entry_words rule_field fault_field refusal_field named_words at_byte place_words where_words refusal_line
bad-delay = refl

pub bad-item-event : refusal_line (bytes_of "old.bin") contents (File (BadItem rule.Event 124)) ≡ bytes_of "old.bin: refused 24 at byte 124, item 6, event: an item's event, out of range, out of order by event and part, or not 0 within a group\n"
unfolding contents pick digits_of decimal u16_at u32_at counts_of rule_row fault_row refusal_row rule_words fault_words refusal_words fault_placed placed entry_at entry_of field_words is_entry name_words entry_words rule_field fault_field refusal_field named_words at_byte place_words where_words refusal_line
bad-item-event = refl

pub bad-nesting : refusal_line (bytes_of "old.bin") contents (File (BadItem rule.Nesting 126)) ≡ bytes_of "old.bin: refused 25 at byte 126, item 6, last: an item's nesting, at depth 9 or a group that ends past what holds it\n"
unfolding contents pick digits_of decimal u16_at u32_at counts_of rule_row fault_row refusal_row rule_words fault_words refusal_words fault_placed placed entry_at entry_of field_words is_entry name_words entry_words rule_field fault_field refusal_field named_words at_byte place_words where_words refusal_line
bad-nesting = refl

pub bad-number : refusal_line (bytes_of "old.bin") contents (File (BadItem rule.Message 126)) ≡ bytes_of "old.bin: refused 26 at byte 126, item 6, last: an action's message number, not below the message count\n"
unfolding contents pick digits_of decimal u16_at u32_at counts_of rule_row fault_row refusal_row rule_words fault_words refusal_words fault_placed placed entry_at entry_of field_words is_entry name_words entry_words rule_field fault_field refusal_field named_words at_byte place_words where_words refusal_line
bad-number = refl

pub many-actions : refusal_line (bytes_of "old.bin") contents (File (BadItem rule.Actions 116)) ≡ bytes_of "old.bin: refused 27 at byte 116, item 6: the 1,025th action\n"
unfolding contents pick digits_of decimal u16_at u32_at counts_of rule_row fault_row refusal_row rule_words fault_words refusal_words fault_placed placed entry_at entry_of field_words is_entry name_words entry_words rule_field fault_field refusal_field named_words at_byte place_words where_words refusal_line
many-actions = refl

pub bad_event : refusal_line (bytes_of "old.bin") contents (File (BadEvent 40)) ≡ bytes_of "old.bin: refused 6 at byte 40, event 3: an event's duration\n"
unfolding contents pick digits_of decimal u16_at u32_at counts_of rule_row fault_row refusal_row rule_words fault_words refusal_words fault_placed placed entry_at entry_of field_words is_entry name_words entry_words rule_field fault_field refusal_field named_words at_byte place_words where_words refusal_line
bad_event = refl

pub bad_message : refusal_line (bytes_of "old.bin") contents (File (BadMessage 132)) ≡ bytes_of "old.bin: refused 8 at byte 132, message 1: a message entry or its label bytes\n"
unfolding contents pick digits_of decimal u16_at u32_at counts_of rule_row fault_row refusal_row rule_words fault_words refusal_words fault_placed placed entry_at entry_of field_words is_entry name_words entry_words rule_field fault_field refusal_field named_words at_byte place_words where_words refusal_line
bad_message = refl

pub bad_count : refusal_line (bytes_of "old.bin") contents (File (BadCount 28)) ≡ bytes_of "old.bin: refused 4 at byte 28, count of text bytes: a count outside its limits\n"
unfolding contents pick digits_of decimal u16_at u32_at counts_of rule_row fault_row refusal_row rule_words fault_words refusal_words fault_placed placed entry_at entry_of field_words is_entry name_words entry_words rule_field fault_field refusal_field named_words at_byte place_words where_words refusal_line
bad_count = refl

pub file_short : refusal_line (bytes_of "score.bin") [] (File FileShort) ≡ bytes_of "score.bin: refused 3: file under 32 bytes\n"
unfolding contents pick digits_of decimal u16_at u32_at counts_of rule_row fault_row refusal_row rule_words fault_words refusal_words fault_placed placed entry_at entry_of field_words is_entry name_words entry_words rule_field fault_field refusal_field named_words at_byte place_words where_words refusal_line
file_short = refl

pub bad-tempo : refusal_line (bytes_of "line 1") contents BadTempo ≡ bytes_of "line 1: refused 9: tempo outside 1 to 50,400\n"
unfolding contents pick digits_of decimal u16_at u32_at counts_of rule_row fault_row refusal_row rule_words fault_words refusal_words fault_placed placed entry_at entry_of field_words is_entry name_words entry_words rule_field fault_field refusal_field named_words at_byte place_words where_words refusal_line
bad-tempo = refl

-- the first offset is at byte 0, and a wrong length is at none; what is left of the text is told at the text's offset
pub bad-offset : refusal_line (bytes_of "score.bin") contents (File (BadOffset 0)) ≡ bytes_of "score.bin: refused 5 at byte 0, offset of the events: an offset not as above\n"
unfolding contents pick digits_of decimal u16_at u32_at counts_of rule_row fault_row refusal_row rule_words fault_words refusal_words fault_placed placed entry_at entry_of field_words is_entry name_words entry_words rule_field fault_field refusal_field named_words at_byte place_words where_words refusal_line
bad-offset = refl

pub bad-length : refusal_line (bytes_of "score.bin") contents (File BadLength) ≡ bytes_of "score.bin: refused 5: offsets right, file length wrong\n"
unfolding contents pick digits_of decimal u16_at u32_at counts_of rule_row fault_row refusal_row rule_words fault_words refusal_words fault_placed placed entry_at entry_of field_words is_entry name_words entry_words rule_field fault_field refusal_field named_words at_byte place_words where_words refusal_line
bad-length = refl

pub text_left : refusal_line (bytes_of "score.bin") contents (File TextLeft) ≡ bytes_of "score.bin: refused 8 at byte 24, offset of the text: entries right, text not used up\n"
unfolding contents pick digits_of decimal u16_at u32_at counts_of rule_row fault_row refusal_row rule_words fault_words refusal_words fault_placed placed entry_at entry_of field_words is_entry name_words entry_words rule_field fault_field refusal_field named_words at_byte place_words where_words refusal_line
text_left = refl

-- ---- entries, at the first and the last byte of each table

unfoldable pub counts : Counts
counts = record { events = 3; items = 7; messages = 2; text = 5 }

pub each-table : (entry_at counts 31 ∷ entry_at counts 32 ∷ entry_at counts 43 ∷ entry_at counts 44 ∷ entry_at counts 127 ∷ entry_at counts 128 ∷ entry_at counts 135 ∷ entry_at counts 136 ∷ [])
    ≡ (Contents 7 ∷ Event 1 ∷ Event 3 ∷ Item 0 ∷ Item 6 ∷ Message 0 ∷ Message 1 ∷ Nowhere ∷ [])
unfolding counts pick entry_at
each-table = refl

-- ---- an extended score: 3 events from byte 40 on, 2 items from 52 on, no messages, text and points from 92 on

unfoldable pub folded : List ℕ
folded =
    40 ∷ 0 ∷ 0 ∷ 0 ∷ 3 ∷ 0 ∷ 0 ∷ 0
    ∷ 52 ∷ 0 ∷ 0 ∷ 0 ∷ 2 ∷ 0 ∷ 0 ∷ 0
    ∷ 92 ∷ 0 ∷ 0 ∷ 0 ∷ 0 ∷ 0 ∷ 0 ∷ 0
    ∷ 92 ∷ 0 ∷ 0 ∷ 0 ∷ 0 ∷ 0 ∷ 0 ∷ 0
    ∷ 92 ∷ 0 ∷ 0 ∷ 0 ∷ 0 ∷ 0 ∷ 0 ∷ 0
    ∷ []

pub bad-folded : folded_line (bytes_of "loops.ext") folded (Err (BadExtended 72)) ≡ bytes_of "loops.ext: refused 17 at byte 72, item 1: an item that can't be unfolded\n"
unfolding folded pick digits_of decimal u16_at u32_at extent_of unfold_row extended_words unfolding_words is_entry name_words entry_words at_byte folded_entry folded_place folded_where folded_end folded_line
bad-folded = refl

pub bad-extended : folded_line (bytes_of "loops.ext") folded (Err (BadExtended 0)) ≡ bytes_of "loops.ext: refused 17: bad extended contents; also points left over\n"
unfolding folded pick digits_of decimal u16_at u32_at extent_of unfold_row extended_words unfolding_words is_entry name_words entry_words at_byte folded_entry folded_place folded_where folded_end folded_line
bad-extended = refl

pub over-limit : folded_line (bytes_of "loops.ext") folded (Err OverLimit) ≡ bytes_of "loops.ext: refused 18: the unfolded score would break a limit\n"
unfolding folded pick digits_of decimal u16_at u32_at extent_of unfold_row extended_words unfolding_words is_entry name_words entry_words at_byte folded_entry folded_place folded_where folded_end folded_line
over-limit = refl
