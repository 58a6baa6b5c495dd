-- What the calls told decides.
-- Assumes nothing.
use Rattle.hints.specs.Asked.{word_hint}
use Rattle.hints.proofs.ChoiceSteps.{choosing}
use Rattle.hints.proofs.choices.word_hint.Goals as goal

pub returns-then-is_group_word : goal.returns-then-is_group_word
unfolding word_hint
returns-then-is_group_word c = search choosing

pub returns-then-is_word : goal.returns-then-is_word
unfolding word_hint
returns-then-is_word c = search choosing

pub returns-then-is_word-2 : goal.returns-then-is_word-2
unfolding word_hint
returns-then-is_word-2 c = search choosing

pub returns : goal.returns
unfolding word_hint
returns c = search choosing
