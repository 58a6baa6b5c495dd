use native.Mathlib.Omega.{arith}
use borrow.Author.Rules.{rules}
use mathlib.Core.Path.{◌≡◌}
use Rattle.std.specs.Prelude.{None}
use Rattle.shapes.proofs.SizeSteps.{inner-most, size_few, size-fewer, size_step, sizing}
use Rattle.shapes.proofs.+size_items.Goals as goal

pub loop-left-init : goal.loop-left-init
loop-left-init t c = search sizing

pub own_at-o-requires : goal.own_at-o-requires
own_at-o-requires t c = search sizing

pub overflow_mul-more : goal.overflow_mul-more
overflow_mul-more t c = search sizing

pub overflow_add-more : goal.overflow_add-more
overflow_add-more t c = search sizing

pub returns-then-more-gt-MOST_ITEMS : goal.returns-then-more-gt-MOST_ITEMS
returns-then-more-gt-MOST_ITEMS t c = search sizing

pub overflow_mul-sent : goal.overflow_mul-sent
overflow_mul-sent t c = search sizing

pub overflow_add-sent : goal.overflow_add-sent
overflow_add-sent t c = search sizing

pub returns-then-sent-gt-MOST_ACTIONS : goal.returns-then-sent-gt-MOST_ACTIONS
returns-then-sent-gt-MOST_ACTIONS t c = search sizing

pub overflow_add-deeper : goal.overflow_add-deeper
overflow_add-deeper t c = search sizing

pub returns-then-deeper-gt-DEEPEST : goal.returns-then-deeper-gt-DEEPEST
returns-then-deeper-gt-DEEPEST t c = search sizing

pub overflow_sub-left : goal.overflow_sub-left
overflow_sub-left t c = search sizing

pub overflow_add-i : goal.overflow_add-i
overflow_add-i t c = search sizing

pub overflow_mul-factor : goal.overflow_mul-factor
overflow_mul-factor t c = search sizing

pub size_items-requires : goal.size_items-requires
size_items-requires t c =
    let bound = c.own_at-o.ensures.1 in
    let asked = c.requires in (
      omega (arith, bound.some, asked.depth),
      record {
        table = omega (arith, c.min-body.ensures, c.loop-left-test.true, c.loop-left.invariant.0, c.loop-left.invariant.1, asked.table);
        depth = omega arith;
        factor = inner-most _ _ asked.factor bound _ c.if-more-gt-MOST_ITEMS.false;
        items = c.if-more-gt-MOST_ITEMS.false;
        actions = c.if-sent-gt-MOST_ACTIONS.false;
      },
    )

pub overflow_sub-left-in-loop-left : goal.overflow_sub-left-in-loop-left
overflow_sub-left-in-loop-left t c = search sizing

pub overflow_add-passed : goal.overflow_add-passed
overflow_add-passed t c =
    omega (arith, c.min-passed.ensures, c.loop-left-test.true, c.loop-left.invariant.0, c.loop-left.invariant.1, c.ranges.count, c.ranges.at, c.requires.table)

pub overflow_add-i-in-loop-left : goal.overflow_add-i-in-loop-left
overflow_add-i-in-loop-left t c =
    omega (arith, c.min-passed.ensures, c.loop-left-test.true, c.loop-left.invariant.0, c.loop-left.invariant.1, c.ranges.count, c.ranges.at, c.requires.table)

pub overflow_sub-left-in-loop-left-2 : goal.overflow_sub-left-in-loop-left-2
overflow_sub-left-in-loop-left-2 t c = search sizing

pub loop-left-smaller : goal.loop-left-smaller
loop-left-smaller t c = search sizing

pub loop-left-preserved : goal.loop-left-preserved
loop-left-preserved t c =
    let all = c.loop-left.invariant.4 in
    let some = c.loop-left-test.true in
    let o = c.own_at-o.ensures.0 in
    let opened = c.min-body.ensures in
    let walked = c.size_items.ensures in
    let within = c.in_ok-w.was in (
      omega (arith, c.min-passed.ensures, c.loop-left-test.true, c.loop-left.invariant.0, c.loop-left.invariant.1, c.ranges.count, c.ranges.at, c.requires.table),
      omega (arith, c.min-passed.ensures, c.loop-left-test.true, c.loop-left.invariant.0, c.loop-left.invariant.1, c.ranges.count, c.ranges.at, c.requires.table),
      size_few _ _ _ _ _ _ _ _ all some _ o _ opened _ walked _ _ within,
      size-fewer _ _ _ _ _ _ _ _ all some _ o _ opened _ walked _ _ within,
      size_step _ _ _ _ _ _ _ _ all some _ o _ opened _ walked _ _ within _ c.min-passed.ensures,
    )

pub returns : goal.returns
returns t c = search sizing

pub returns-in_err-w : goal.returns-in_err-w
returns-in_err-w t c =
    let e : c.from_residual.result ≡ None = search rules in
    search (sizing, e, c.in_err-w.was)
