-- What the calls told decides.
-- Assumes nothing.
use Rattle.hints.specs.Asked.{beats_hint}
use Rattle.hints.proofs.ChoiceSteps.{choosing}
use Rattle.hints.proofs.choices.beats_hint.Goals as goal

pub returns-then-is_decimal : goal.returns-then-is_decimal
unfolding beats_hint
returns-then-is_decimal c = search choosing

pub returns-then-is_mixed : goal.returns-then-is_mixed
unfolding beats_hint
returns-then-is_mixed c = search choosing

pub returns-then-is_uneven : goal.returns-then-is_uneven
unfolding beats_hint
returns-then-is_uneven c = search choosing

pub returns : goal.returns
unfolding beats_hint
returns c = search choosing
