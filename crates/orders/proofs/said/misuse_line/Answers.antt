-- Each usage has its own words.
-- Assumes nothing.
use Rattle.orders.proofs.SaidSteps.{misused}
use Rattle.orders.proofs.said.misuse_line.Goals as goal

pub returns-in-Right : goal.returns-in-Right
returns-in-Right c = search misused

pub returns-in-NoCommand : goal.returns-in-NoCommand
returns-in-NoCommand c = search misused

pub returns-in-NoOption : goal.returns-in-NoOption
returns-in-NoOption c = search misused

pub returns-in-TooFew : goal.returns-in-TooFew
returns-in-TooFew c = search misused

pub returns-in-TooMany : goal.returns-in-TooMany
returns-in-TooMany c = search misused

pub returns-in-NoNumber : goal.returns-in-NoNumber
returns-in-NoNumber c = search misused

pub returns-in-InputTwice : goal.returns-in-InputTwice
returns-in-InputTwice c = search misused
