-- Each test in turn.
-- Assumes nothing.
use Rattle.hints.proofs.MarkSteps.{decimals}
use Rattle.hints.proofs.marks.is_decimal.Goals as goal

pub returns-then-at-lt1 : goal.returns-then-at-lt1
returns-then-at-lt1 c = search decimals

pub returns-then-not-digit_at : goal.returns-then-not-digit_at
returns-then-not-digit_at c = search decimals

pub returns-then-text-at : goal.returns-then-text-at
returns-then-text-at c = search decimals

pub returns-then-not-is_point : goal.returns-then-not-is_point
returns-then-not-is_point c = search decimals

pub returns : goal.returns
returns c = search decimals
