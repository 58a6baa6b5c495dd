-- `sliced_fate` goes by what has become of the slice's event.
-- Assumes nothing.
use Rattle.fates.proofs.FateLaws.{slices}
use Rattle.fates.proofs.running.sliced_fate.Goals as goal

pub taken_of-taken-requires : goal.taken_of-taken-requires
taken_of-taken-requires c = search slices

pub enum_told-1 : goal.enum_told-1
enum_told-1 c = search slices

pub enum_known-taken : goal.enum_known-taken
enum_known-taken c = search slices

pub start_of-own-requires : goal.start_of-own-requires
start_of-own-requires c = search slices

pub since-requires : goal.since-requires
since-requires c = search slices

pub missed_loosely-requires : goal.missed_loosely-requires
missed_loosely-requires c = search slices

pub enum_told-in-Unsettled : goal.enum_told-in-Unsettled
enum_told-in-Unsettled c = search slices

pub returns-in-Heard : goal.returns-in-Heard
returns-in-Heard c = search slices

pub returns-in-Missed : goal.returns-in-Missed
returns-in-Missed c = search slices

pub returns-in-Unsettled : goal.returns-in-Unsettled
returns-in-Unsettled c = search slices
