-- Each count is held to its limit.
-- Assumes nothing.
use borrow.Author.Rules.{rules}
use Rattle.base.proofs.TestLaws.{tests}
use Rattle.unfolder.specs.Inner.{few}
use Rattle.unfolder.proofs.sizing.few_enough.Goals as goal

pub returns-then-c-lt1 : goal.returns-then-c-lt1
unfolding few
returns-then-c-lt1 c = search (tests, rules)

pub returns-then-c-gt-MOST_EVENTS : goal.returns-then-c-gt-MOST_EVENTS
unfolding few
returns-then-c-gt-MOST_EVENTS c = search (tests, rules)

pub returns-then-c-gt-MOST_ITEMS : goal.returns-then-c-gt-MOST_ITEMS
unfolding few
returns-then-c-gt-MOST_ITEMS c = search (tests, rules)

pub returns-then-c-gt-MOST_MESSAGES : goal.returns-then-c-gt-MOST_MESSAGES
unfolding few
returns-then-c-gt-MOST_MESSAGES c = search (tests, rules)

pub returns : goal.returns
unfolding few
returns c = search (tests, rules)
