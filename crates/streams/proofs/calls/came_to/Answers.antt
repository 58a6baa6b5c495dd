-- An answer is how many bytes were moved, or an error.
-- Assumes nothing.
use borrow.Author.Rules.{rules}
use Rattle.streams.proofs.CallSteps.{failed-by}
use Rattle.streams.specs.Outcomes.{outcome_of}
use Rattle.streams.proofs.calls.came_to.Goals as goal

pub returns-in-Ok : goal.returns-in-Ok
unfolding outcome_of
returns-in-Ok c = search rules

pub returns-in-Err : goal.returns-in-Err
returns-in-Err c = failed-by _ _ _ _ (record { sfits = c.error_number.type_inv }) c.in-Err.is c.error_number.ensures c.failure.ensures
