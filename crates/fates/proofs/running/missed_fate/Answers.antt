-- `missed_fate` is the fate of a loose group's item, heard as the group is heard.
-- Assumes nothing.
use Rattle.fates.proofs.FateLaws.{missed-fates}
use Rattle.fates.proofs.running.missed_fate.Goals as goal

pub missed_loosely-f-requires : goal.missed_loosely-f-requires
missed_loosely-f-requires c = search missed-fates

pub enum_known-f : goal.enum_known-f
enum_known-f c = search missed-fates

pub heard_fate-requires : goal.heard_fate-requires
heard_fate-requires c = search missed-fates

pub enum_told-1 : goal.enum_told-1
enum_told-1 c = search missed-fates

pub enum_told-in-GroupsOnly : goal.enum_told-in-GroupsOnly
enum_told-in-GroupsOnly c = search missed-fates

pub enum_told-in-Nothing : goal.enum_told-in-Nothing
enum_told-in-Nothing c = search missed-fates

pub enum_told-in-NotYet : goal.enum_told-in-NotYet
enum_told-in-NotYet c = search missed-fates

pub returns-in-HeardAt : goal.returns-in-HeardAt
returns-in-HeardAt c = search missed-fates

pub returns-in-MissedBy : goal.returns-in-MissedBy
returns-in-MissedBy c = search missed-fates

pub returns-in-GroupsOnly : goal.returns-in-GroupsOnly
returns-in-GroupsOnly c = search missed-fates

pub returns-in-Nothing : goal.returns-in-Nothing
returns-in-Nothing c = search missed-fates

pub returns-in-NotYet : goal.returns-in-NotYet
returns-in-NotYet c = search missed-fates
