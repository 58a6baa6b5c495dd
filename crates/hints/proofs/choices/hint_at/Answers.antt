-- What the calls told decides.
-- Assumes nothing.
use Rattle.hints.specs.Hints.{hint_at}
use Rattle.hints.specs.Asked.{word_hint}
use Rattle.hints.specs.Asked.{beats_hint}
use Rattle.hints.proofs.ChoiceSteps.{choosing}
use Rattle.hints.proofs.choices.hint_at.Goals as goal

pub returns-then-is_mark : goal.returns-then-is_mark
unfolding hint_at word_hint beats_hint
returns-then-is_mark c = search choosing

pub returns-then-is_capital : goal.returns-then-is_capital
unfolding hint_at word_hint beats_hint
returns-then-is_capital c = search choosing

pub returns-then-is_first : goal.returns-then-is_first
unfolding hint_at word_hint beats_hint
returns-then-is_first c = search choosing

pub returns : goal.returns
unfolding hint_at word_hint beats_hint
returns c = search choosing
