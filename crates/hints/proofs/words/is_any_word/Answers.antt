-- What the calls told decides.
-- Assumes nothing.
use Rattle.hints.specs.Hints.{all_words}
use Rattle.hints.proofs.WordSteps.{words}
use Rattle.hints.proofs.words.is_any_word.Goals as goal

pub returns-then-is_word : goal.returns-then-is_word
unfolding all_words
returns-then-is_word c = search words

pub returns-then-is_word-2 : goal.returns-then-is_word-2
unfolding all_words
returns-then-is_word-2 c = search words

pub returns-then-is_word-3 : goal.returns-then-is_word-3
unfolding all_words
returns-then-is_word-3 c = search words

pub returns-then-is_word-4 : goal.returns-then-is_word-4
unfolding all_words
returns-then-is_word-4 c = search words

pub returns-then-is_word-5 : goal.returns-then-is_word-5
unfolding all_words
returns-then-is_word-5 c = search words

pub returns : goal.returns
unfolding all_words
returns c = search words
