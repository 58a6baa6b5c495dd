-- `sequence` goes by what has become of the event.
-- Assumes nothing.
use Rattle.evaluators.proofs.PageLaws.{sequences}
use Rattle.evaluators.proofs.runs.sequence.Goals as goal

pub taken_of-taken-requires : goal.taken_of-taken-requires
taken_of-taken-requires c = search sequences

pub start_of-start-requires : goal.start_of-start-requires
start_of-start-requires c = search sequences

pub enum_told-1 : goal.enum_told-1
enum_told-1 c = search sequences

pub heard_body-requires : goal.heard_body-requires
heard_body-requires c = search sequences

pub enum_known-taken : goal.enum_known-taken
enum_known-taken c = search sequences

pub missed_top-requires : goal.missed_top-requires
missed_top-requires c = search sequences

pub enum_told-in-Unsettled : goal.enum_told-in-Unsettled
enum_told-in-Unsettled c = search sequences

pub still_body-requires : goal.still_body-requires
still_body-requires c = search sequences

pub shape_of-mem-in-Heard : goal.shape_of-mem-in-Heard
shape_of-mem-in-Heard c = search sequences

pub returns-in-Heard : goal.returns-in-Heard
returns-in-Heard c = search sequences

pub shape_of-mem-in-Missed : goal.shape_of-mem-in-Missed
shape_of-mem-in-Missed c = search sequences

pub returns-in-Missed : goal.returns-in-Missed
returns-in-Missed c = search sequences

pub shape_of-mem-in-Unsettled : goal.shape_of-mem-in-Unsettled
shape_of-mem-in-Unsettled c = search sequences

pub returns-in-Unsettled : goal.returns-in-Unsettled
returns-in-Unsettled c = search sequences
