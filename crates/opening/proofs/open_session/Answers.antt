-- Each way through the checks has its reply and leaves its words.
-- Assumes nothing.
use Rattle.std.proofs.lemmas.Result.{err_from_is_err_and}
use Rattle.opening.specs.Opening.{opening_check}
use Rattle.opening.proofs.OpeningSteps.{openings}
use borrow.Author.Rules.{rules}
use Rattle.opening.proofs.open_session.Goals as goal

pub returns-then-mem-lt-MEMORY_SIZE : goal.returns-then-mem-lt-MEMORY_SIZE
unfolding opening_check
returns-then-mem-lt-MEMORY_SIZE c = search openings

pub returns-in_err-check_file : goal.returns-in_err-check_file
unfolding opening_check
returns-in_err-check_file c =
    let p = err_from_is_err_and c.from_residual.result c.from_residual.ensures.1 in
    rw p.1 (search (openings, p.2, c.in_err-check_file.was))

pub returns-then-tempo-lt1 : goal.returns-then-tempo-lt1
unfolding opening_check
returns-then-tempo-lt1 c = search (openings, c.in_ok-check_file.was)

pub returns-then-tempo-gt-MOST_TEMPO : goal.returns-then-tempo-gt-MOST_TEMPO
unfolding opening_check
returns-then-tempo-gt-MOST_TEMPO c = search (openings, c.in_ok-check_file.was)

pub returns-then-grace-gt-MOST_GRACE : goal.returns-then-grace-gt-MOST_GRACE
unfolding opening_check
returns-then-grace-gt-MOST_GRACE c = search (openings, c.in_ok-check_file.was)

pub invariant_of-begin : goal.invariant_of-begin
invariant_of-begin c = record { accepted = search (openings, c.in_ok-check_file.was) }

pub returns : goal.returns
unfolding opening_check
returns c = search (openings, c.in_ok-check_file.was) depth 7
