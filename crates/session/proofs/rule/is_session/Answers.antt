-- Each return is the answer of the tests that led there, in the order of the rule.
-- Assumes nothing.
use Rattle.base.proofs.TestLaws.{tests}
use Rattle.session.specs.Session.{is_session}
use borrow.Author.Rules.{rules}
use Rattle.session.proofs.rule.is_session.Goals as goal

pub bounds-mem-1 : goal.bounds-mem-1
bounds-mem-1 c = search rules

pub bounds-mem-2336 : goal.bounds-mem-2336
bounds-mem-2336 c = search rules

pub bounds-mem-2337 : goal.bounds-mem-2337
bounds-mem-2337 c = search rules

pub bounds-mem-2338 : goal.bounds-mem-2338
bounds-mem-2338 c = search rules

pub bounds-mem-0 : goal.bounds-mem-0
bounds-mem-0 c = search rules

pub returns-then-mem-ne-MARK : goal.returns-then-mem-ne-MARK
unfolding is_session
returns-then-mem-ne-MARK c = search tests depth 13

pub returns-then-events-lt1 : goal.returns-then-events-lt1
unfolding is_session
returns-then-events-lt1 c = search tests depth 13

pub returns-then-events-gt-MOST_EVENTS : goal.returns-then-events-gt-MOST_EVENTS
unfolding is_session
returns-then-events-gt-MOST_EVENTS c = search tests depth 13

pub bounds-mem-2 : goal.bounds-mem-2
bounds-mem-2 c = search rules

pub returns-then-mem-gt-MOST_ITEMS : goal.returns-then-mem-gt-MOST_ITEMS
unfolding is_session
returns-then-mem-gt-MOST_ITEMS c = search tests depth 13

pub bounds-mem-3 : goal.bounds-mem-3
bounds-mem-3 c = search rules

pub returns-then-mem-gt-MOST_PARTS : goal.returns-then-mem-gt-MOST_PARTS
unfolding is_session
returns-then-mem-gt-MOST_PARTS c = search tests depth 13

pub bounds-mem-4 : goal.bounds-mem-4
bounds-mem-4 c = search rules

pub returns-then-mem-gt-MOST_GRACE : goal.returns-then-mem-gt-MOST_GRACE
unfolding is_session
returns-then-mem-gt-MOST_GRACE c = search tests depth 13

pub returns-then-clock-gt-CLOCK_END : goal.returns-then-clock-gt-CLOCK_END
unfolding is_session
returns-then-clock-gt-CLOCK_END c = search tests depth 13

pub returns-then-tempo-lt1 : goal.returns-then-tempo-lt1
unfolding is_session
returns-then-tempo-lt1 c = search tests depth 13

pub returns-then-tempo-gt-MOST_TEMPO : goal.returns-then-tempo-gt-MOST_TEMPO
unfolding is_session
returns-then-tempo-gt-MOST_TEMPO c = search tests depth 13

pub returns-then-events-last : goal.returns-then-events-last
unfolding is_session
returns-then-events-last c = search tests depth 13

pub bounds-mem-2339 : goal.bounds-mem-2339
bounds-mem-2339 c = search rules

pub overflow_add-result : goal.overflow_add-result
overflow_add-result c = search rules

pub overflow_mul-result : goal.overflow_mul-result
overflow_mul-result c = search rules

pub returns : goal.returns
unfolding is_session
returns c = search tests depth 13
