-- What the check found decides.
-- Assumes nothing.
use Rattle.checking.proofs.LineLaws.{checks}
use Rattle.checking.proofs.line.check_line.Goals as goal

pub invariant_of-accepted_line : goal.invariant_of-accepted_line
invariant_of-accepted_line c = record { accepted = search checks }

pub returns-in-Ok : goal.returns-in-Ok
returns-in-Ok c = search checks

pub returns-in-Err : goal.returns-in-Err
returns-in-Err c = search checks
