-- Hints: what a common mistake in a text looks like, and what is told of it. A refusal has at most one.
use Rattle.std.specs.Prelude.{ℕ, ◌+◌, ◌-◌, Bool, true, false, not, List, [], ◌∷◌, eqb, leb, length, take, drop, get_or, Option, Some, None}
use Rattle.base.specs.Tests.{pick, every, one_of, between}
use Rattle.ascii.specs.Text.{bytes_of}
use Rattle.ascii.specs.Words.{space, begins}
use Rattle.ascii.specs.Numbers.{is_digit}
use Rattle.contents.specs.declared.Fault.{Fault}
use Rattle.contents.specs.declared.Fault.TheVariants.{FileShort, BadCount, BadOffset, BadLength, BadEvent, BadItem, BadMessage, TextLeft, NoMessage}
use Rattle.contents.specs.declared.ItemRule.{ItemRule}
use Rattle.contents.specs.declared.ItemRule.TheVariants as rule
use Rattle.tokens.specs.Bytes.{slash}
use Rattle.tokens.specs.Tokens.{Read, got, stop, left_by, blanks, is_word, number}
use Rattle.tokens.specs.Beats.{field, beats}
use Rattle.text.specs.Words.{messages_word, event_word, part_word, send_word, group_word, loose_word, tight_word, local_word, global_word, partial_word, causal_word}
use Rattle.hints.specs.declared.Hint.{Hint}
use Rattle.hints.specs.declared.Hint.TheVariants.{ByteOrderMark, Capitals, NoList, WordOrder, InnerPart, InnerEvent, Decimal, Mixed, Uneven, PastList}

-- ---- the table: what is told

unfoldable pub hint_words : Option Hint → List ℕ
hint_words None = []
hint_words (Some ByteOrderMark) = bytes_of "; hint: the text begins with a byte order mark, save it without one"
hint_words (Some Capitals) = bytes_of "; hint: words are written in small letters"
hint_words (Some NoList) = bytes_of "; hint: a text begins with the word messages, also where it has none"
hint_words (Some WordOrder) = bytes_of "; hint: group, then loose or tight, then local, global, partial or causal, each at most once"
hint_words (Some InnerPart) = bytes_of "; hint: a group is in one part, and part stands outside of it, behind an event; is a } missing?"
hint_words (Some InnerEvent) = bytes_of "; hint: event stands outside of groups; is a } missing?"
hint_words (Some Decimal) = bytes_of "; hint: beats are a whole number or a fraction, 3/2 for 1.5 and 1000 for 1,000"
hint_words (Some Mixed) = bytes_of "; hint: beats are one number or one fraction, 3/2 for 1 1/2"
hint_words (Some Uneven) = bytes_of "; hint: a beat has 5,040 grains, and a fraction must be a whole number of them"
hint_words (Some PastList) = bytes_of "; hint: a send names a message by its number in the list, where the first is 0"

-- Room for any of them.
abbrev pub hint_room : ℕ
hint_room = 100

-- ---- what stands at a byte

-- One of these words.
unfoldable pub is_one_of : List (List ℕ) → List ℕ → Bool
is_one_of [] bs = false
is_one_of (w ∷ ws) bs = pick (is_word w bs) true (is_one_of ws bs)

unfoldable pub group_words : List (List ℕ)
group_words = loose_word ∷ tight_word ∷ local_word ∷ global_word ∷ partial_word ∷ causal_word ∷ []

unfoldable pub all_words : List (List ℕ)
all_words = messages_word ∷ event_word ∷ part_word ∷ send_word ∷ group_word ∷ group_words

-- A capital as a small letter, and every other byte as it is.
unfoldable pub lowered : ℕ → ℕ
lowered b = pick (between 65 90 b) (b + 32) b

unfoldable pub all_lowered : List ℕ → List ℕ
all_lowered [] = []
all_lowered (b ∷ bs) = lowered b ∷ all_lowered bs

-- So many bytes show a word and that it ends: the longest has eight letters.
abbrev pub word_room : ℕ
word_room = 9

-- No word as it is, and one in small letters.
unfoldable pub is_capital : List ℕ → Bool
is_capital bs = every (not (is_one_of all_words bs) ∷ is_one_of all_words (all_lowered (take word_room bs)) ∷ [])

-- UTF-8's byte order mark.
abbrev pub byte_order_mark : List ℕ
byte_order_mark = 239 ∷ 187 ∷ 191 ∷ []

-- `.` or `,`
unfoldable pub is_point : ℕ → Bool
is_point b = one_of (46 ∷ 44 ∷ []) b

unfoldable pub is_got : Read ℕ → Bool
is_got (got n left) = true
is_got (stop left) = false

-- number "/" number, whatever its value.
unfoldable pub is_fractional : List ℕ → Bool
is_fractional bs =
    every (
    is_got (number field bs)
    ∷ begins (slash ∷ []) (left_by (number field bs))
    ∷ is_got (number field (drop 1 (left_by (number field bs))))
    ∷ []
    )

-- ---- what each mistake looks like, by the text and the byte that can't be

-- The text's first token.
unfoldable pub is_first : (text : List ℕ) → (at : ℕ) → Bool
is_first t at = eqb at (length t - length (blanks t))

unfoldable pub is_mark : (text : List ℕ) → (at : ℕ) → Bool
is_mark t at = every (eqb at 0 ∷ begins byte_order_mark t ∷ [])

-- A point between two digits.
unfoldable pub is_decimal : (text : List ℕ) → (at : ℕ) → Bool
is_decimal t at = every (leb 1 at ∷ is_digit (get_or t (at - 1) 0) ∷ is_point (get_or t at 0) ∷ is_digit (get_or t (at + 1) 0) ∷ [])

-- A digit, a space, and beats that are a fraction.
unfoldable pub is_mixed : (text : List ℕ) → (at : ℕ) → Bool
is_mixed t at =
    every (
    leb 2 at
    ∷ is_digit (get_or t (at - 2) 0)
    ∷ eqb (get_or t (at - 1) 0) space
    ∷ is_fractional (drop at t)
    ∷ is_got (beats (drop at t))
    ∷ []
    )

-- A fraction that is no beats.
unfoldable pub is_uneven : List ℕ → Bool
is_uneven bs = every (is_fractional bs ∷ not (is_got (beats bs)) ∷ [])

-- The hint of a text's own fault at this byte: the first row that fits.
unfoldable pub hint_at : (text : List ℕ) → (at : ℕ) → Option Hint
hint_at t at =
    pick (is_mark t at) (Some ByteOrderMark)
    (pick (is_capital (drop at t)) (Some Capitals)
    (pick (is_first t at) (Some NoList)
    (pick (is_one_of group_words (drop at t)) (Some WordOrder)
    (pick (is_word part_word (drop at t)) (Some InnerPart)
    (pick (is_word event_word (drop at t)) (Some InnerEvent)
    (pick (is_decimal t at) (Some Decimal)
    (pick (is_mixed t at) (Some Mixed)
    (pick (is_uneven (drop at t)) (Some Uneven) None))))))))

-- The hint of what the file check refuses: "a message number past the list".
unfoldable pub rule_hint : ItemRule → Option Hint
rule_hint rule.Kind = None
rule_hint rule.Synchrony = None
rule_hint rule.ErrorWord = None
rule_hint rule.Part = None
rule_hint rule.Delay = None
rule_hint rule.Event = None
rule_hint rule.Nesting = None
rule_hint rule.Message = Some PastList
rule_hint rule.Actions = None

unfoldable pub fault_hint : Fault → Option Hint
fault_hint FileShort = None
fault_hint (BadCount at) = None
fault_hint (BadOffset at) = None
fault_hint BadLength = None
fault_hint (BadEvent at) = None
fault_hint (BadItem r at) = rule_hint r
fault_hint (BadMessage at) = None
fault_hint TextLeft = None
fault_hint NoMessage = None
