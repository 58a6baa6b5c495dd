use borrow.Author.Rules.{rules}
use Rattle.writer.proofs.PageSteps.{paging, top-there, top-few, top-asked, top-falls, top-step, page_end, event-there, event-falls, event-room, event-step}
use Rattle.writer.proofs.pages.put_page.Goals as goal

pub event_count-events-requires : goal.event_count-events-requires
event_count-events-requires c = search paging

pub loop-item-init : goal.loop-item-init
loop-item-init c = search paging

pub stands-requires : goal.stands-requires
stands-requires c = search paging

pub read_item-item-requires : goal.read_item-item-requires
read_item-item-requires c =
    top-there _ _ _ _ _ _ _ _ c.loop-item.invariant.0 _ c.stands.ensures c.if-stands.true

pub within-inner-requires : goal.within-inner-requires
within-inner-requires c = search paging

pub put_top-next-requires : goal.put_top-next-requires
put_top-next-requires c =
    top-asked _ _ _ _ _ _ _ _ c.loop-item.invariant.0 _ c.stands.ensures c.if-stands.true _ c.read_item-item.ensures _ c.within-inner.ensures

pub overflow_add-i : goal.overflow_add-i
overflow_add-i c =
    let few = top-few _ _ _ _ _ _ _ _ c.loop-item.invariant.0 _ c.stands.ensures c.if-stands.true _ c.read_item-item.ensures _ c.within-inner.ensures in search rules

pub overflow_add-i-then-stands : goal.overflow_add-i-then-stands
overflow_add-i-then-stands c =
    let few = top-few _ _ _ _ _ _ _ _ c.loop-item.invariant.0 _ c.stands.ensures c.if-stands.true _ c.read_item-item.ensures _ c.within-inner.ensures in search rules

pub overflow_add-standing : goal.overflow_add-standing
overflow_add-standing c = search paging

pub loop-item-smaller-then-stands : goal.loop-item-smaller-then-stands
loop-item-smaller-then-stands c =
    top-falls _ _ _ _ _ _ _ _ c.loop-item.invariant.0 _ c.stands.ensures c.if-stands.true _ c.read_item-item.ensures _ c.within-inner.ensures

pub loop-item-preserved-then-stands : goal.loop-item-preserved-then-stands
loop-item-preserved-then-stands c =
    (top-step _ _ _ _ _ _ _ _ c.loop-item.invariant.0 _ c.stands.ensures c.if-stands.true _ c.read_item-item.ensures _ c.within-inner.ensures _ _ c.put_top-next.ensures, c.loop-item.invariant.1)

pub shape_of-out-then-events-e : goal.shape_of-out-then-events-e
shape_of-out-then-events-e c = search paging

pub returns-then-events-e : goal.returns-then-events-e
returns-then-events-e c =
    page_end _ _ _ _ _ _ _ _ c.loop-item.invariant.0 _ c.stands.ensures c.if-stands.false _ c.loop-item.invariant.1 c.if-events-e.true

pub duration-d-requires : goal.duration-d-requires
duration-d-requires c =
    event-there _ _ _ _ _ _ _ _ c.loop-item.invariant.0 _ c.stands.ensures c.if-stands.false _ c.loop-item.invariant.1 c.if-events-e.false

pub overflow_add-e : goal.overflow_add-e
overflow_add-e c = search paging

pub put_event-next-requires : goal.put_event-next-requires
put_event-next-requires c =
    (c.duration-d.ensures.short, event-room _ _ _ _ _ _ _ _ c.loop-item.invariant.0 _ c.stands.ensures c.if-stands.false _ c.loop-item.invariant.1 c.if-events-e.false _ c.duration-d.ensures)

pub loop-item-smaller : goal.loop-item-smaller
loop-item-smaller c =
    event-falls _ _ _ _ _ _ _ _ c.loop-item.invariant.0 _ c.stands.ensures c.if-stands.false _ c.loop-item.invariant.1 c.if-events-e.false

pub loop-item-preserved : goal.loop-item-preserved
loop-item-preserved c =
    (event-step _ _ _ _ _ _ _ _ c.loop-item.invariant.0 _ c.stands.ensures c.if-stands.false _ c.loop-item.invariant.1 c.if-events-e.false _ c.duration-d.ensures _ _ c.put_event-next.ensures, c.loop-item.invariant.1)
