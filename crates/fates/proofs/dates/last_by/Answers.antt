use Rattle.fates.proofs.HalvingLaws.{halvings}
use Rattle.fates.proofs.dates.last_by.Goals as goal

pub loop-size-init : goal.loop-size-init
loop-size-init c = search halvings

pub overflow_add-low : goal.overflow_add-low
overflow_add-low c = search halvings

pub start_of-start-requires : goal.start_of-start-requires
start_of-start-requires c = search halvings

pub overflow_add-low-then-start-date : goal.overflow_add-low-then-start-date
overflow_add-low-then-start-date c = search halvings

pub overflow_sub-size : goal.overflow_sub-size
overflow_sub-size c = search halvings

pub loop-size-smaller-then-start-date : goal.loop-size-smaller-then-start-date
loop-size-smaller-then-start-date c = search halvings

pub loop-size-preserved-then-start-date : goal.loop-size-preserved-then-start-date
loop-size-preserved-then-start-date c = search halvings

pub loop-size-smaller : goal.loop-size-smaller
loop-size-smaller c = search halvings

pub loop-size-preserved : goal.loop-size-preserved
loop-size-preserved c = search halvings

pub returns : goal.returns
returns c = search halvings
