-- What is asked of the functions that choose a hint: the ends of the table's chain of rows.
use Rattle.std.specs.Prelude.{ℕ, List, drop, Option, Some, None}
use Rattle.base.specs.Tests.{pick}
use Rattle.tokens.specs.Tokens.{is_word}
use Rattle.text.specs.Words.{event_word, part_word}
use Rattle.hints.specs.declared.Hint.{Hint}
use Rattle.hints.specs.declared.Hint.TheVariants.{WordOrder, InnerPart, InnerEvent, Decimal, Mixed, Uneven}
use Rattle.hints.specs.Hints.{is_one_of, group_words, is_decimal, is_mixed, is_uneven}

-- The rows of beats.
unfoldable pub beats_hint : (text : List ℕ) → (at : ℕ) → Option Hint
beats_hint t at =
    pick (is_decimal t at) (Some Decimal)
    (pick (is_mixed t at) (Some Mixed)
    (pick (is_uneven (drop at t)) (Some Uneven) None))

-- The rows of words at a wrong place, then those of beats.
unfoldable pub word_hint : (text : List ℕ) → (at : ℕ) → Option Hint
word_hint t at =
    pick (is_one_of group_words (drop at t)) (Some WordOrder)
    (pick (is_word part_word (drop at t)) (Some InnerPart)
    (pick (is_word event_word (drop at t)) (Some InnerEvent) (beats_hint t at)))
