-- Each early return is the first fault of the table; the tests before it have passed.
-- Assumes nothing.
use Rattle.contents.specs.Contents.{counts_right}
use Rattle.contents.proofs.Verdicts.{faults}
use Rattle.contents.proofs.check_counts.Goals as goal

pub returns-then-c-lt1 : goal.returns-then-c-lt1
unfolding counts_right
returns-then-c-lt1 c = search faults depth 9

pub returns-then-c-gt-MOST_EVENTS : goal.returns-then-c-gt-MOST_EVENTS
unfolding counts_right
returns-then-c-gt-MOST_EVENTS c = search faults depth 9

pub returns-then-c-gt-MOST_ITEMS : goal.returns-then-c-gt-MOST_ITEMS
unfolding counts_right
returns-then-c-gt-MOST_ITEMS c = search faults depth 9

pub returns-then-c-gt-MOST_MESSAGES : goal.returns-then-c-gt-MOST_MESSAGES
unfolding counts_right
returns-then-c-gt-MOST_MESSAGES c = search faults depth 9

pub returns-then-c-gt-MOST_TEXT : goal.returns-then-c-gt-MOST_TEXT
unfolding counts_right
returns-then-c-gt-MOST_TEXT c = search faults depth 9

pub returns : goal.returns
unfolding counts_right
returns c = search faults depth 9
