use borrow.Author.Rules.{rules}
use native.Mathlib.Omega.{arith}
use Rattle.writer.proofs.NestSteps.{laying, group_fits, body-asked, lay-group}
use Rattle.writer.proofs.nesting.+put_items.Goals as goal

pub loop-left-init : goal.loop-left-init
loop-left-init t c = search laying

pub read_item-item-requires : goal.read_item-item-requires
read_item-item-requires t c = search laying

pub put_action-next-requires : goal.put_action-next-requires
put_action-next-requires t c = search laying

pub overflow_add-i : goal.overflow_add-i
overflow_add-i t c = search laying

pub overflow_sub-left : goal.overflow_sub-left
overflow_sub-left t c = search laying

pub loop-left-smaller-then-item-eq0 : goal.loop-left-smaller-then-item-eq0
loop-left-smaller-then-item-eq0 t c = search laying

pub loop-left-preserved-then-item-eq0 : goal.loop-left-preserved-then-item-eq0
loop-left-preserved-then-item-eq0 t c = search laying

pub put_group-body-requires : goal.put_group-body-requires
put_group-body-requires t c = search laying

pub overflow_add-i-in-loop-left : goal.overflow_add-i-in-loop-left
overflow_add-i-in-loop-left t c = search laying

pub overflow_add-depth : goal.overflow_add-depth
overflow_add-depth t c = search laying

pub put_items-brace-requires : goal.put_items-brace-requires
put_items-brace-requires t c =
    let fits = group_fits _ _ _ _ _ _ _ _ _ c.loop-left.invariant.0 c.loop-left-test.true _ c.read_item-item.ensures c.if-item-eq0.false in (
      omega (arith, c.loop-left.invariant.1, c.loop-left-test.true),
      body-asked _ _ _ _ _ _ _ _ _ c.loop-left.invariant.0 c.loop-left-test.true _ c.read_item-item.ensures c.if-item-eq0.false _ _ c.put_group-body.ensures,
    )

pub put_close-next-requires : goal.put_close-next-requires
put_close-next-requires t c = search laying

pub overflow_add-i-in-loop-left-2 : goal.overflow_add-i-in-loop-left-2
overflow_add-i-in-loop-left-2 t c = search laying

pub overflow_add-i-in-loop-left-3 : goal.overflow_add-i-in-loop-left-3
overflow_add-i-in-loop-left-3 t c =
    let fits = group_fits _ _ _ _ _ _ _ _ _ c.loop-left.invariant.0 c.loop-left-test.true _ c.read_item-item.ensures c.if-item-eq0.false in search rules

pub overflow_sub-left-in-loop-left : goal.overflow_sub-left-in-loop-left
overflow_sub-left-in-loop-left t c = search laying

pub overflow_sub-left-in-loop-left-2 : goal.overflow_sub-left-in-loop-left-2
overflow_sub-left-in-loop-left-2 t c = search laying

pub loop-left-smaller : goal.loop-left-smaller
loop-left-smaller t c = search laying

pub loop-left-preserved : goal.loop-left-preserved
loop-left-preserved t c =
    let walked = lay-group _ _ _ _ _ _ _ _ _ c.loop-left.invariant.0 c.loop-left-test.true _ c.read_item-item.ensures c.if-item-eq0.false _ _ c.put_group-body.ensures _ _ c.put_items-brace.ensures _ _ c.put_close-next.ensures in
    (walked, omega (arith, c.loop-left.invariant.1))

pub shape_of-out : goal.shape_of-out
shape_of-out t c = search laying

pub returns : goal.returns
returns t c = search laying
