use native.Mathlib.Omega.{arith}
use Rattle.evaluators.proofs.WalkLaws.{heard-step, missed-step, still-step, lent-on, bodies, items, fates}
use Rattle.evaluators.proofs.walk.+heard_body_item_missed_body_still_body_within.Goals as goal

pub heard_body-loop-left-init : goal.heard_body-loop-left-init
heard_body-loop-left-init t c = (omega arith, search bodies, omega arith, omega arith, omega arith, search bodies)

pub heard_body-overflow_add-from : goal.heard_body-overflow_add-from
heard_body-overflow_add-from t c = search bodies

pub heard_body-offset_bounds-mem-from : goal.heard_body-offset_bounds-mem-from
heard_body-offset_bounds-mem-from t c = search bodies

pub heard_body-bounds-mem-from : goal.heard_body-bounds-mem-from
heard_body-bounds-mem-from t c = search bodies

pub heard_body-delay_in-requires : goal.heard_body-delay_in-requires
heard_body-delay_in-requires t c = search bodies

pub heard_body-overflow_add-date : goal.heard_body-overflow_add-date
heard_body-overflow_add-date t c = search bodies

pub heard_body-heard_fate-f-requires : goal.heard_body-heard_fate-f-requires
heard_body-heard_fate-f-requires t c = search bodies

pub heard_body-item-n-requires : goal.heard_body-item-n-requires
heard_body-item-n-requires t c = (omega arith, search bodies)

pub heard_body-overflow_add-place : goal.heard_body-overflow_add-place
heard_body-overflow_add-place t c = search bodies

pub heard_body-overflow_sub-left : goal.heard_body-overflow_sub-left
heard_body-overflow_sub-left t c = search bodies

pub heard_body-loop-left-smaller : goal.heard_body-loop-left-smaller
heard_body-loop-left-smaller t c = search bodies

pub heard_body-loop-left-preserved : goal.heard_body-loop-left-preserved
heard_body-loop-left-preserved t c =
    let inv = c.loop-left.invariant in
    (omega arith, search (lent-on, c.item-n.ensures, inv.1), omega arith, omega arith, omega arith, search (heard-step, c.item-n.ensures, c.heard_fate-f.ensures.0, c.delay_in.ensures.0, c.loop-left-test.true, inv.1, inv.4, inv.5))

pub heard_body-shape_of-mem : goal.heard_body-shape_of-mem
heard_body-shape_of-mem t c = search bodies

pub heard_body-returns : goal.heard_body-returns
heard_body-returns t c = search bodies

pub item-item_in-x-requires : goal.item-item_in-x-requires
item-item_in-x-requires t c = search items

pub item-leave-requires : goal.item-leave-requires
item-leave-requires t c = search items

pub item-shape_of-mem-then-x-eq0 : goal.item-shape_of-mem-then-x-eq0
item-shape_of-mem-then-x-eq0 t c = search items

pub item-returns-then-x-eq0 : goal.item-returns-then-x-eq0
item-returns-then-x-eq0 t c = search items

pub item-overflow_sub-count : goal.item-overflow_sub-count
item-overflow_sub-count t c = search items

pub item-overflow_add-size : goal.item-overflow_add-size
item-overflow_add-size t c = search items

pub item-returns-then-levels-eq0 : goal.item-returns-then-levels-eq0
item-returns-then-levels-eq0 t c = search items

pub item-overflow_sub-levels : goal.item-overflow_sub-levels
item-overflow_sub-levels t c = search items

pub item-overflow_add-at : goal.item-overflow_add-at
item-overflow_add-at t c = search items

pub item-within-requires : goal.item-within-requires
item-within-requires t c = (omega arith, search items)

pub item-shape_of-mem : goal.item-shape_of-mem
item-shape_of-mem t c = search items

pub item-returns : goal.item-returns
item-returns t c = search items

pub missed_body-loop-left-init : goal.missed_body-loop-left-init
missed_body-loop-left-init t c = search bodies

pub missed_body-overflow_add-from : goal.missed_body-overflow_add-from
missed_body-overflow_add-from t c = search bodies

pub missed_body-offset_bounds-mem-from : goal.missed_body-offset_bounds-mem-from
missed_body-offset_bounds-mem-from t c = search bodies

pub missed_body-bounds-mem-from : goal.missed_body-bounds-mem-from
missed_body-bounds-mem-from t c = search bodies

pub missed_body-delay_in-requires : goal.missed_body-delay_in-requires
missed_body-delay_in-requires t c = search bodies

pub missed_body-overflow_add-after : goal.missed_body-overflow_add-after
missed_body-overflow_add-after t c = search bodies

pub missed_body-missed_fate-f-requires : goal.missed_body-missed_fate-f-requires
missed_body-missed_fate-f-requires t c = search bodies

pub missed_body-item-n-requires : goal.missed_body-item-n-requires
missed_body-item-n-requires t c = (omega arith, search bodies)

pub missed_body-overflow_add-place : goal.missed_body-overflow_add-place
missed_body-overflow_add-place t c = search bodies

pub missed_body-overflow_sub-left : goal.missed_body-overflow_sub-left
missed_body-overflow_sub-left t c = search bodies

pub missed_body-loop-left-smaller : goal.missed_body-loop-left-smaller
missed_body-loop-left-smaller t c = search bodies

pub missed_body-loop-left-preserved : goal.missed_body-loop-left-preserved
missed_body-loop-left-preserved t c = (omega arith, search lent-on, omega arith, omega arith, search missed-step)

pub missed_body-shape_of-mem : goal.missed_body-shape_of-mem
missed_body-shape_of-mem t c = search bodies

pub missed_body-returns : goal.missed_body-returns
missed_body-returns t c = search bodies

pub still_body-loop-left-init : goal.still_body-loop-left-init
still_body-loop-left-init t c = search bodies

pub still_body-overflow_add-from : goal.still_body-overflow_add-from
still_body-overflow_add-from t c = search bodies

pub still_body-offset_bounds-mem-from : goal.still_body-offset_bounds-mem-from
still_body-offset_bounds-mem-from t c = search bodies

pub still_body-bounds-mem-from : goal.still_body-bounds-mem-from
still_body-bounds-mem-from t c = search bodies

pub still_body-item-n-requires : goal.still_body-item-n-requires
still_body-item-n-requires t c = (omega arith, search bodies)

pub still_body-overflow_add-place : goal.still_body-overflow_add-place
still_body-overflow_add-place t c = search bodies

pub still_body-overflow_sub-left : goal.still_body-overflow_sub-left
still_body-overflow_sub-left t c = search bodies

pub still_body-loop-left-smaller : goal.still_body-loop-left-smaller
still_body-loop-left-smaller t c = search bodies

pub still_body-loop-left-preserved : goal.still_body-loop-left-preserved
still_body-loop-left-preserved t c = (omega arith, search lent-on, omega arith, search still-step)

pub still_body-shape_of-mem : goal.still_body-shape_of-mem
still_body-shape_of-mem t c = search bodies

pub still_body-returns : goal.still_body-returns
still_body-returns t c = search bodies

pub within-enum_known-f : goal.within-enum_known-f
within-enum_known-f t c = search fates

pub within-heard_body-requires : goal.within-heard_body-requires
within-heard_body-requires t c = (omega arith, search fates)

pub within-enum_known-f-in-MissedBy-1 : goal.within-enum_known-f-in-MissedBy-1
within-enum_known-f-in-MissedBy-1 t c = search fates

pub within-missed_body-requires : goal.within-missed_body-requires
within-missed_body-requires t c = (omega arith, search fates)

pub within-enum_known-f-in-GroupsOnly-1 : goal.within-enum_known-f-in-GroupsOnly-1
within-enum_known-f-in-GroupsOnly-1 t c = search fates

pub within-missed_body-requires-in-GroupsOnly : goal.within-missed_body-requires-in-GroupsOnly
within-missed_body-requires-in-GroupsOnly t c = (omega arith, search fates)

pub within-enum_told-1 : goal.within-enum_told-1
within-enum_told-1 t c = search fates

pub within-still_body-requires : goal.within-still_body-requires
within-still_body-requires t c = (omega arith, search fates)

pub within-enum_told-in-NotYet : goal.within-enum_told-in-NotYet
within-enum_told-in-NotYet t c = search fates

pub within-still_body-requires-in-NotYet : goal.within-still_body-requires-in-NotYet
within-still_body-requires-in-NotYet t c = (omega arith, search fates)

pub within-shape_of-mem-in-HeardAt : goal.within-shape_of-mem-in-HeardAt
within-shape_of-mem-in-HeardAt t c = search fates

pub within-returns-in-HeardAt : goal.within-returns-in-HeardAt
within-returns-in-HeardAt t c = search fates

pub within-shape_of-mem-in-MissedBy : goal.within-shape_of-mem-in-MissedBy
within-shape_of-mem-in-MissedBy t c = search fates

pub within-returns-in-MissedBy : goal.within-returns-in-MissedBy
within-returns-in-MissedBy t c = search fates

pub within-shape_of-mem-in-GroupsOnly : goal.within-shape_of-mem-in-GroupsOnly
within-shape_of-mem-in-GroupsOnly t c = search fates

pub within-returns-in-GroupsOnly : goal.within-returns-in-GroupsOnly
within-returns-in-GroupsOnly t c = search fates

pub within-shape_of-mem-in-Nothing : goal.within-shape_of-mem-in-Nothing
within-shape_of-mem-in-Nothing t c = search fates

pub within-returns-in-Nothing : goal.within-returns-in-Nothing
within-returns-in-Nothing t c = search fates

pub within-shape_of-mem-in-NotYet : goal.within-shape_of-mem-in-NotYet
within-shape_of-mem-in-NotYet t c = search fates

pub within-returns-in-NotYet : goal.within-returns-in-NotYet
within-returns-in-NotYet t c = search fates
