-- `outcome_word` goes by the fate.
-- Assumes nothing.
use Rattle.fates.proofs.OutcomeLaws.{outcomes}
use Rattle.fates.proofs.outcomes.outcome_word.Goals as goal

pub enum_known-f : goal.enum_known-f
enum_known-f c = search outcomes

pub start_of-requires : goal.start_of-requires
start_of-requires c = search outcomes

pub since-requires : goal.since-requires
since-requires c = search outcomes

pub overflow_add-result : goal.overflow_add-result
overflow_add-result c = search outcomes

pub enum_known-f-in-MissedBy-1 : goal.enum_known-f-in-MissedBy-1
enum_known-f-in-MissedBy-1 c = search outcomes

pub start_of-requires-in-MissedBy : goal.start_of-requires-in-MissedBy
start_of-requires-in-MissedBy c = search outcomes

pub since-requires-in-MissedBy : goal.since-requires-in-MissedBy
since-requires-in-MissedBy c = search outcomes

pub overflow_add-result-in-MissedBy : goal.overflow_add-result-in-MissedBy
overflow_add-result-in-MissedBy c = search outcomes

pub enum_told-1 : goal.enum_told-1
enum_told-1 c = search outcomes

pub enum_told-in-Nothing : goal.enum_told-in-Nothing
enum_told-in-Nothing c = search outcomes

pub enum_told-in-NotYet : goal.enum_told-in-NotYet
enum_told-in-NotYet c = search outcomes

pub returns-in-HeardAt : goal.returns-in-HeardAt
returns-in-HeardAt c = search outcomes

pub returns-in-MissedBy : goal.returns-in-MissedBy
returns-in-MissedBy c = search outcomes

pub returns-in-GroupsOnly : goal.returns-in-GroupsOnly
returns-in-GroupsOnly c = search outcomes

pub returns-in-Nothing : goal.returns-in-Nothing
returns-in-Nothing c = search outcomes

pub returns-in-NotYet : goal.returns-in-NotYet
returns-in-NotYet c = search outcomes
