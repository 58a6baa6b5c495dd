-- Small texts, and line and column of what made a byte of their files, worked out by hand: the contents, an event, a message, no event, and a text with a fault.
-- Assumes nothing.
use mathlib.Core.Path.{◌≡◌, refl}
use mathlib.Core.List.{List, [], ◌∷◌}
use Prim.Native.Nat.{ℕ}
use Rattle.base.specs.Tests.{pick, every, between}
use Rattle.ascii.specs.Words.{begins, same}
use Rattle.ascii.specs.Text.{bytes_of}
use Rattle.ascii.specs.Numbers.{is_digit, value_from, value}
use Rattle.contents.specs.Entries.{entry_at}
use Rattle.score.specs.Encode.{text_bytes, counts_in}
use Rattle.tokens.specs.declared.Place.{Place}
use Rattle.tokens.specs.Bytes.{is_blank, is_letter, is_escaped}
use Rattle.tokens.specs.Tokens.{left_by, onward, past_blanks, leading, behind, is_word, is_number, number, with_byte, label_from, label}
use Rattle.tokens.specs.Beats.{is_fraction, valued, fraction, beats}
use Rattle.tokens.specs.Places.{place_from, place_behind}
use Rattle.text.specs.Grammar.{past_word, named, entry, timed, parted, sent, opened, synchrony_at, error_at, erring, grouped, action, item, closed, line, further, deeper, shallower, after, may_end, is_over, follow, script_from, script}
use Rattle.text.specs.Said.{labels_of, durations_of, within, event_of, items_of, piece_of, told, said}
use Rattle.origins.specs.Origins.{placed, placed_lines, adds, count_of, token_in, is_listed, passing, list_end, contents_origins, origin_in, origin_of, place_of, place_in_text}

-- Line and column of what made the byte at each of these places.
unfoldable pub places_in : List ℕ → List ℕ → List Place
places_in t [] = []
places_in t (p ∷ ps) = place_in_text t p ∷ places_in t ps

abbrev at : (line column : ℕ) → Place
at l c = record { line = l; column = c }

-- A message, an event, a group and a send within it, each on a line of its own, the first with a comment that opens a brace. The event stands at 32, the items at 36 and 48, the message at 60, its text at 64.
abbrev page : List ℕ
page = bytes_of "messages 0 \"a\" # {\nevent 1\npart 0 0 group{\n  1 send 0}"

pub contents-places : places_in page (20 ∷ 24 ∷ 35 ∷ []) ≡ at 0 0 ∷ at 1 15 ∷ at 2 1 ∷ []
unfolding places_in pick every between begins same value_from value is_blank is_digit is_letter is_escaped onward past_blanks leading behind is_word is_number number with_byte label_from label is_fraction valued fraction beats past_word named entry timed parted sent opened synchrony_at error_at erring grouped action item closed line further deeper shallower after may_end is_over follow script_from script labels_of durations_of within event_of items_of piece_of told said text_bytes counts_in entry_at place_from place_behind left_by placed placed_lines adds count_of token_in is_listed passing list_end contents_origins origin_in origin_of place_of place_in_text
contents-places = refl

pub message-place : places_in page (60 ∷ []) ≡ at 1 12 ∷ []
unfolding places_in pick every between begins same value_from value is_blank is_digit is_letter is_escaped onward past_blanks leading behind is_word is_number number with_byte label_from label is_fraction valued fraction beats past_word named entry timed parted sent opened synchrony_at error_at erring grouped action item closed line further deeper shallower after may_end is_over follow script_from script labels_of durations_of within event_of items_of piece_of told said text_bytes counts_in entry_at place_from place_behind left_by placed placed_lines adds count_of token_in is_listed passing list_end contents_origins origin_in origin_of place_of place_in_text
message-place = refl

-- No event: one is missing at the text's end, behind a newline on the next line. The list ends behind its last label, or behind its heading.
pub no-event-places : places_in (bytes_of "messages 0 \"a\"\n") (4 ∷ 7 ∷ 24 ∷ 32 ∷ 36 ∷ []) ≡ at 2 1 ∷ at 2 1 ∷ at 1 15 ∷ at 1 12 ∷ at 0 0 ∷ []
unfolding places_in pick every between begins same value_from value is_blank is_digit is_letter is_escaped onward past_blanks leading behind is_word is_number number with_byte label_from label is_fraction valued fraction beats past_word named entry timed parted sent opened synchrony_at error_at erring grouped action item closed line further deeper shallower after may_end is_over follow script_from script labels_of durations_of within event_of items_of piece_of told said text_bytes counts_in entry_at place_from place_behind left_by placed placed_lines adds count_of token_in is_listed passing list_end contents_origins origin_in origin_of place_of place_in_text
no-event-places = refl

pub no-list-places : places_in (bytes_of "messages") (4 ∷ 24 ∷ 32 ∷ []) ≡ at 1 9 ∷ at 1 9 ∷ at 0 0 ∷ []
unfolding places_in pick every between begins same value_from value is_blank is_digit is_letter is_escaped onward past_blanks leading behind is_word is_number number with_byte label_from label is_fraction valued fraction beats past_word named entry timed parted sent opened synchrony_at error_at erring grouped action item closed line further deeper shallower after may_end is_over follow script_from script labels_of durations_of within event_of items_of piece_of told said text_bytes counts_in entry_at place_from place_behind left_by placed placed_lines adds count_of token_in is_listed passing list_end contents_origins origin_in origin_of place_of place_in_text
no-list-places = refl

-- A fault of its own, behind an event that could be read.
pub faulty-places : places_in (bytes_of "messages event 0 event") (4 ∷ 24 ∷ 32 ∷ []) ≡ at 0 0 ∷ at 0 0 ∷ at 0 0 ∷ []
unfolding places_in pick every between begins same value_from value is_blank is_digit is_letter is_escaped onward past_blanks leading behind is_word is_number number with_byte label_from label is_fraction valued fraction beats past_word named entry timed parted sent opened synchrony_at error_at erring grouped action item closed line further deeper shallower after may_end is_over follow script_from script labels_of durations_of within event_of items_of piece_of told said text_bytes counts_in entry_at place_from place_behind left_by placed placed_lines adds count_of token_in is_listed passing list_end contents_origins origin_in origin_of place_of place_in_text
faulty-places = refl
