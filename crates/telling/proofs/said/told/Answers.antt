-- A name is shorter than what is told, or is cut to it.
-- Assumes nothing.
use Rattle.telling.proofs.SaidSteps.{told-length, names}
use Rattle.telling.proofs.said.told.Goals as goal

pub slice_bounds-result-end : goal.slice_bounds-result-end
slice_bounds-result-end c = told-length c.args.name.now c.if-name-gt-MOST_NAME.true

pub returns-then-name-gt-MOST_NAME : goal.returns-then-name-gt-MOST_NAME
returns-then-name-gt-MOST_NAME c = search names

pub returns : goal.returns
returns c = search names
