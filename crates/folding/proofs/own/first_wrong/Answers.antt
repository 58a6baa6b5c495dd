use Rattle.folding.proofs.OwnSteps.{takes_told, items-reached}
use Rattle.folding.proofs.own.first_wrong.Goals as goal

pub items_start-at-requires : goal.items_start-at-requires
items_start-at-requires c = search items-reached

pub points_start-p-requires : goal.points_start-p-requires
points_start-p-requires c = search items-reached

pub loop-number-init : goal.loop-number-init
loop-number-init c = search items-reached

pub folded_at-i-requires : goal.folded_at-i-requires
folded_at-i-requires c = search items-reached

pub own_right-requires : goal.own_right-requires
own_right-requires c = search items-reached

pub returns-then-not-own_right : goal.returns-then-not-own_right
returns-then-not-own_right c = search items-reached

pub overflow_mul-p : goal.overflow_mul-p
overflow_mul-p c =
    let few = takes_told _ _ _ _ _ _ c.own_right.ensures c.if-not-own_right.false c.points_of-taken.ensures in
    search (items-reached, few)

pub overflow_add-p : goal.overflow_add-p
overflow_add-p c =
    let few = takes_told _ _ _ _ _ _ c.own_right.ensures c.if-not-own_right.false c.points_of-taken.ensures in
    search (items-reached, few)

pub overflow_sub-left : goal.overflow_sub-left
overflow_sub-left c =
    let few = takes_told _ _ _ _ _ _ c.own_right.ensures c.if-not-own_right.false c.points_of-taken.ensures in
    search (items-reached, few)

pub overflow_add-at : goal.overflow_add-at
overflow_add-at c = search items-reached

pub loop-number-preserved : goal.loop-number-preserved
loop-number-preserved c =
    let few = takes_told _ _ _ _ _ _ c.own_right.ensures c.if-not-own_right.false c.points_of-taken.ensures in
    search (items-reached, few)

pub returns : goal.returns
returns c = search items-reached
