use native.Mathlib.Omega.{arith}
use Rattle.building.proofs.TableSteps.{curve-part, tabled-body, sized, sized-few, sized-sent, sized-flat, curve-long, curve-whole}
use Rattle.building.proofs.ItemSteps.{other-room, curve-laid, group-laid, fitting, group-asks, group-made, loop-made, built-on, item-under, group-under, curve-few, curve-room, item-built}
use Rattle.building.proofs.PassSteps.{pass_step, pass-left, positive, pass-product, pass-few, pass-sent, pass-flat, pass-made, loop-built, passes-built}
use Rattle.building.proofs.BuildSteps.{others-tabled, others-made, others-on, none_left, items-built}
use Rattle.building.proofs.pages.+build_item_build_items_build_loop_build_passes.Goals as goal

pub build_item-overflow_mul-k : goal.build_item-overflow_mul-k
build_item-overflow_mul-k t c = search item-built

pub build_item-overflow_add-s : goal.build_item-overflow_add-s
build_item-overflow_add-s t c = search item-built

pub build_item-folded_at-i-requires : goal.build_item-folded_at-i-requires
build_item-folded_at-i-requires t c = search item-built

pub build_item-overflow_add-next : goal.build_item-overflow_add-next
build_item-overflow_add-next t c = search item-built

pub build_item-put_item-requires : goal.build_item-put_item-requires
build_item-put_item-requires t c = search item-built

pub build_item-shape_of-out-then-item-eq0 : goal.build_item-shape_of-out-then-item-eq0
build_item-shape_of-out-then-item-eq0 t c = search item-built

pub build_item-returns-then-item-eq0 : goal.build_item-returns-then-item-eq0
build_item-returns-then-item-eq0 t c = search item-built

pub build_item-overflow_add-deeper : goal.build_item-overflow_add-deeper
build_item-overflow_add-deeper t c = search item-built

pub build_item-size_of-n-requires : goal.build_item-size_of-n-requires
build_item-size_of-n-requires t c =
    let asked = c.requires in
    let tabled = tabled-body _ _ _ _ _ _ asked.0 in
    let made = group-made _ _ c.folded_at-i.ensures.0 _ _ _ _ _ asked.1 c.if-item-eq0.false c.if-item-eq1.true in
    (tabled.rows, sized-few _ _ _ _ _ _ tabled made.few, sized-sent _ _ _ _ _ _ tabled made.sent, sized-flat _ _ _ _ _ _ tabled (omega (arith, made.flat)))

pub build_item-put_group-at-requires : goal.build_item-put_group-at-requires
build_item-put_group-at-requires t c = search item-built

pub build_item-build_items-requires : goal.build_item-build_items-requires
build_item-build_items-requires t c =
    let asked = c.requires in
    let made = group-made _ _ c.folded_at-i.ensures.0 _ _ _ _ _ asked.1 c.if-item-eq0.false c.if-item-eq1.true in
    let put = c.put_group-at.ensures in
    (omega (arith, item-under _ _ _ _ _ asked.1), (tabled-body _ _ _ _ _ _ asked.0, built-on _ _ _ _ _ _ _ made put.0 put.1))

pub build_item-shape_of-out-then-item-eq1 : goal.build_item-shape_of-out-then-item-eq1
build_item-shape_of-out-then-item-eq1 t c = search item-built

pub build_item-returns-then-item-eq1 : goal.build_item-returns-then-item-eq1
build_item-returns-then-item-eq1 t c =
    let asked = c.requires in
    let n = sized _ _ _ _ _ _ (tabled-body _ _ _ _ _ _ asked.0) _ c.size_of-n.ensures.0 in
    group-laid _ _ c.folded_at-i.ensures.0 _ _ _ _ _ _ _ _ c.if-item-eq0.false _ c.if-item-eq1.true n c.put_group-at.ensures.0 c.build_items.ensures

pub build_item-build_loop-requires : goal.build_item-build_loop-requires
build_item-build_loop-requires t c =
    let asked = c.requires in
    let same = c.folded_at-i.ensures in
    let made = loop-made _ _ same.0 _ _ _ _ _ asked.1 c.if-item-eq0.false c.if-item-eq1.false c.if-item-eq2.true in
    (omega (arith, item-under _ _ _ _ _ asked.1), (tabled-body _ _ _ _ _ _ asked.0, same.1, made))

pub build_item-shape_of-out-then-item-eq2 : goal.build_item-shape_of-out-then-item-eq2
build_item-shape_of-out-then-item-eq2 t c = search item-built

pub build_item-returns-then-item-eq2 : goal.build_item-returns-then-item-eq2
build_item-returns-then-item-eq2 t c = search item-built

pub build_item-times_at-times-requires : goal.build_item-times_at-times-requires
build_item-times_at-times-requires t c = search item-built

pub build_item-first_at-first-requires : goal.build_item-first_at-first-requires
build_item-first_at-first-requires t c =
    omega (arith, c.requires.0.rows)

pub build_item-put_group-at-requires-2 : goal.build_item-put_group-at-requires-2
build_item-put_group-at-requires-2 t c =
    let asked = c.requires in
    let same = c.folded_at-i.ensures in
    let long = curve-long _ _ _ _ _ _ asked.0 (omega arith) _ same.0 c.if-item-eq0.false c.if-item-eq1.false c.if-item-eq2.false _ c.times_at-times.ensures.0 in
    (other-room _ _ same.0 _ _ _ _ _ asked.1 c.if-item-eq0.false, fitting _ same.1, curve-few _ _ same.0 _ _ _ _ _ asked.1 c.if-item-eq0.false c.if-item-eq1.false _ c.if-item-eq2.false long)

pub build_item-build_values-requires : goal.build_item-build_values-requires
build_item-build_values-requires t c =
    let asked = c.requires in
    let same = c.folded_at-i.ensures in
    let times = c.times_at-times.ensures in
    let place = c.first_at-first.ensures in
    let put = c.put_group-at-2.ensures in
    let long = curve-long _ _ _ _ _ _ asked.0 (omega arith) _ same.0 c.if-item-eq0.false c.if-item-eq1.false c.if-item-eq2.false _ times.0 in
    let whole = curve-whole _ _ _ _ _ _ asked.0 (omega arith) _ same.0 c.if-item-eq0.false c.if-item-eq1.false c.if-item-eq2.false _ times.0 _ place.0 in
    let room = curve-room _ _ same.0 _ _ _ _ _ asked.1 c.if-item-eq0.false c.if-item-eq1.false _ c.if-item-eq2.false long in
    (fitting _ same.1, same.1.each, place.1, times.1, whole, omega (arith, room, put.1, put.0.size))

pub build_item-shape_of-out : goal.build_item-shape_of-out
build_item-shape_of-out t c = search item-built

pub build_item-returns : goal.build_item-returns
build_item-returns t c =
    let asked = c.requires in
    let same = c.folded_at-i.ensures.0 in
    let times = c.times_at-times.ensures.0 in
    let long = curve-long _ _ _ _ _ _ asked.0 (omega arith) _ same c.if-item-eq0.false c.if-item-eq1.false c.if-item-eq2.false _ times in
    let own = curve-part _ _ _ _ _ _ asked.0 (omega arith) _ same c.if-item-eq0.false c.if-item-eq1.false c.if-item-eq2.false _ times _ c.first_at-first.ensures.0 in
    curve-laid _ _ same _ _ _ _ _ _ _ _ c.if-item-eq0.false _ _ c.if-item-eq1.false c.if-item-eq2.false long own c.put_group-at-2.ensures.0 c.build_values.ensures

pub build_items-loop-left-init : goal.build_items-loop-left-init
build_items-loop-left-init t c = search items-built

pub build_items-overflow_sub-left : goal.build_items-overflow_sub-left
build_items-overflow_sub-left t c = search items-built

pub build_items-body_at-body-requires : goal.build_items-body_at-body-requires
build_items-body_at-body-requires t c = search items-built

pub build_items-build_item-at-requires : goal.build_items-build_item-at-requires
build_items-build_item-at-requires t c = search items-built

pub build_items-overflow_add-i : goal.build_items-overflow_add-i
build_items-overflow_add-i t c = search items-built

pub build_items-overflow_add-i-in-loop-left : goal.build_items-overflow_add-i-in-loop-left
build_items-overflow_add-i-in-loop-left t c = search items-built

pub build_items-overflow_add-left : goal.build_items-overflow_add-left
build_items-overflow_add-left t c = search items-built

pub build_items-overflow_sub-left-in-loop-left : goal.build_items-overflow_sub-left-in-loop-left
build_items-overflow_sub-left-in-loop-left t c = search items-built

pub build_items-loop-left-smaller : goal.build_items-loop-left-smaller
build_items-loop-left-smaller t c = search items-built

pub build_items-loop-left-preserved : goal.build_items-loop-left-preserved
build_items-loop-left-preserved t c =
    let inv = c.loop-left.invariant in
    let some = c.loop-left-test.true in
    let body = c.body_at-body.ensures in
    let laid = c.build_item-at.ensures in (
      omega (arith, body, some, inv.0),
      omega (arith, body, some, inv.1),
      omega (arith, laid.size, inv.2),
      others-tabled _ _ _ _ _ _ inv.3 some _ body,
      others-made _ _ _ _ _ _ inv.3 some _ body _ _ _ _ laid _ inv.4,
      λ x r rest. inv.5 x r (others-on _ _ _ _ _ _ inv.3 some _ body _ _ _ _ laid x r rest),
    )

pub build_items-shape_of-out : goal.build_items-shape_of-out
build_items-shape_of-out t c = search items-built

pub build_items-returns : goal.build_items-returns
build_items-returns t c =
    let inv = c.loop-left.invariant in
    inv.5 _ _ (none_left _ _ _ _ _ _ _ _ _ c.loop-left-test.false inv.4)

pub build_loop-put_group-requires : goal.build_loop-put_group-requires
build_loop-put_group-requires t c =
    let asked = c.requires in
    (omega (arith, (group-asks _ _ _ _ _ asked.2).room), fitting _ asked.1, omega arith)

pub build_loop-shape_of-out-then-times-eq0 : goal.build_loop-shape_of-out-then-times-eq0
build_loop-shape_of-out-then-times-eq0 t c = search loop-built

pub build_loop-returns-then-times-eq0 : goal.build_loop-returns-then-times-eq0
build_loop-returns-then-times-eq0 t c = search loop-built

pub build_loop-size_of-n-requires : goal.build_loop-size_of-n-requires
build_loop-size_of-n-requires t c =
    let asked = c.requires in
    let inner = group-asks _ _ _ _ _ asked.2 in
    let passed = positive _ c.if-times-eq0.false in (
      asked.0.rows,
      sized-few _ _ _ _ _ _ asked.0 (pass-few _ _ _ _ _ _ _ inner passed),
      sized-sent _ _ _ _ _ _ asked.0 (pass-sent _ _ _ _ _ _ _ inner passed),
      sized-flat _ _ _ _ _ _ asked.0 (omega (arith, pass-flat _ _ _ _ _ _ _ inner passed)),
    )

pub build_loop-overflow_mul-times : goal.build_loop-overflow_mul-times
build_loop-overflow_mul-times t c =
    let asked = c.requires in
    let n = sized _ _ _ _ _ _ asked.0 _ c.size_of-n.ensures.0 in
    omega (arith, pass-product _ _ _ _ _ _ _ (group-asks _ _ _ _ _ asked.2) (positive _ c.if-times-eq0.false) _ n)

pub build_loop-overflow_add-times : goal.build_loop-overflow_add-times
build_loop-overflow_add-times t c =
    let asked = c.requires in
    let n = sized _ _ _ _ _ _ asked.0 _ c.size_of-n.ensures.0 in
    omega (arith, pass-product _ _ _ _ _ _ _ (group-asks _ _ _ _ _ asked.2) (positive _ c.if-times-eq0.false) _ n)

pub build_loop-put_group-at-requires : goal.build_loop-put_group-at-requires
build_loop-put_group-at-requires t c =
    let asked = c.requires in
    let inner = group-asks _ _ _ _ _ asked.2 in
    let n = sized _ _ _ _ _ _ asked.0 _ c.size_of-n.ensures.0 in
    (omega (arith, inner.room), fitting _ asked.1, pass-product _ _ _ _ _ _ _ inner (positive _ c.if-times-eq0.false) _ n)

pub build_loop-overflow_add-d : goal.build_loop-overflow_add-d
build_loop-overflow_add-d t c = search loop-built

pub build_loop-build_passes-requires : goal.build_loop-build_passes-requires
build_loop-build_passes-requires t c =
    let asked = c.requires in
    let n = c.size_of-n.ensures in
    let put = c.put_group-at.ensures in
    let made = built-on _ _ _ _ _ _ _ (group-asks _ _ _ _ _ asked.2) put.0 put.1 in
    (omega (arith, group-under _ _ _ _ _ asked.2), (asked.0, asked.1, sized _ _ _ _ _ _ asked.0 _ n.0, n.1, made))

pub build_loop-shape_of-out : goal.build_loop-shape_of-out
build_loop-shape_of-out t c = search loop-built

pub build_loop-returns : goal.build_loop-returns
build_loop-returns t c = search loop-built

pub build_passes-loop-init : goal.build_passes-loop-init
build_passes-loop-init t c = search passes-built

pub build_passes-put_pass-next-requires : goal.build_passes-put_pass-next-requires
build_passes-put_pass-next-requires t c = search passes-built

pub build_passes-overflow_add-d : goal.build_passes-overflow_add-d
build_passes-overflow_add-d t c = search passes-built

pub build_passes-build_items-at-requires : goal.build_passes-build_items-at-requires
build_passes-build_items-at-requires t c =
    let asked = c.requires in
    let inv = c.loop.invariant in
    let put = c.put_pass-next.ensures in
    let made = pass-made _ _ _ _ _ _ _ _ _ inv.1 c.loop-test.true inv.2 _ _ _ _ asked.4 put.0 put.1 in
    (omega (arith, asked.4.flat), (asked.0, made))

pub build_passes-loop-preserved : goal.build_passes-loop-preserved
build_passes-loop-preserved t c =
    let asked = c.requires in
    let inv = c.loop.invariant in
    let some = c.loop-test.true in
    let put = c.put_pass-next.ensures in
    let body = c.build_items-at.ensures in (
      omega (arith, some),
      pass_step _ _ _ _ _ _ _ _ _ inv.1 some inv.2 _ _ _ _ _ _ asked.2 inv.3 put.0 put.1 body,
      pass-left _ _ _ _ _ _ _ _ _ inv.1 some inv.2 _ _ _ _ _ _ asked.2 inv.3 put.0 put.1 body,
      search passes-built,
      search passes-built,
    )

pub build_passes-shape_of-out : goal.build_passes-shape_of-out
build_passes-shape_of-out t c = search passes-built

pub build_passes-returns : goal.build_passes-returns
build_passes-returns t c = search passes-built
