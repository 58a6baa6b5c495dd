-- `heard_fate` keeps the event of a loose group's item and slices a tight one's.
-- Assumes nothing.
use Rattle.fates.proofs.FateLaws.{heard-fates}
use Rattle.fates.proofs.running.heard_fate.Goals as goal

pub enum_told-1 : goal.enum_told-1
enum_told-1 c = search heard-fates

pub enum_told-in-Tight : goal.enum_told-in-Tight
enum_told-in-Tight c = search heard-fates

pub last_by-k-requires : goal.last_by-k-requires
last_by-k-requires c = search heard-fates

pub sliced_fate-requires : goal.sliced_fate-requires
sliced_fate-requires c = search heard-fates

pub returns-in-Loose : goal.returns-in-Loose
returns-in-Loose c = search heard-fates

pub returns-in-Tight : goal.returns-in-Tight
returns-in-Tight c = search heard-fates
