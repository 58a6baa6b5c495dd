use borrow.Author.Rules.{rules}
use Rattle.reader.proofs.PageSteps.{page-event, page-send, grouping, bracing}
use Rattle.reader.proofs.PageSteps.{paging}
use Rattle.reader.proofs.paging.fill_page.Goals as goal

pub loop-s-init : goal.loop-s-init
loop-s-init c = search paging

pub loop-s-smaller-in-Heading : goal.loop-s-smaller-in-Heading
loop-s-smaller-in-Heading c = search paging

pub loop-s-preserved-in-Heading : goal.loop-s-preserved-in-Heading
loop-s-preserved-in-Heading c = search paging

pub loop-s-smaller-in-Message : goal.loop-s-smaller-in-Message
loop-s-smaller-in-Message c = search paging

pub loop-s-preserved-in-Message : goal.loop-s-preserved-in-Message
loop-s-preserved-in-Message c = search paging

pub overflow_mul-events : goal.overflow_mul-events
overflow_mul-events c = search paging

pub put32-requires : goal.put32-requires
put32-requires c = search paging

pub overflow_add-events : goal.overflow_add-events
overflow_add-events c = search paging

pub loop-s-smaller-in-Event : goal.loop-s-smaller-in-Event
loop-s-smaller-in-Event c = search paging

pub loop-s-preserved-in-Event : goal.loop-s-preserved-in-Event
loop-s-preserved-in-Event c =
    page-event _ _ _ _ _ _ _ _ _ _ _ c.loop-s.invariant _ c.next_line.ensures _ c.in-Some.is _ (search rules) (search rules) _ _ c.put32.ensures.0 c.put32.ensures.1

pub loop-s-smaller-in-Part : goal.loop-s-smaller-in-Part
loop-s-smaller-in-Part c = search paging

pub loop-s-preserved-in-Part : goal.loop-s-preserved-in-Part
loop-s-preserved-in-Part c = search paging

pub put_send-requires : goal.put_send-requires
put_send-requires c = search paging

pub overflow_add-n : goal.overflow_add-n
overflow_add-n c = search paging

pub loop-s-smaller-in-Send : goal.loop-s-smaller-in-Send
loop-s-smaller-in-Send c = search paging

pub loop-s-preserved-in-Send : goal.loop-s-preserved-in-Send
loop-s-preserved-in-Send c =
    page-send _ _ _ _ _ _ _ _ _ _ _ c.loop-s.invariant _ c.next_line.ensures _ c.in-Some.is _ _ (search rules) (search rules) _ _ c.put_send.ensures.0 c.put_send.ensures.1

pub put_group-requires : goal.put_group-requires
put_group-requires c = search paging

pub overflow_add-n-in-Group : goal.overflow_add-n-in-Group
overflow_add-n-in-Group c = search paging

pub loop-s-smaller-in-Group : goal.loop-s-smaller-in-Group
loop-s-smaller-in-Group c = search paging

pub loop-s-preserved-in-Group : goal.loop-s-preserved-in-Group
loop-s-preserved-in-Group c = search grouping

pub overflow_sub-inner : goal.overflow_sub-inner
overflow_sub-inner c = search paging

pub overflow_sub-n : goal.overflow_sub-n
overflow_sub-n c = search paging

pub set_last-inner-requires : goal.set_last-inner-requires
set_last-inner-requires c = search paging

pub loop-s-smaller : goal.loop-s-smaller
loop-s-smaller c = search paging

pub loop-s-preserved : goal.loop-s-preserved
loop-s-preserved c = search bracing

pub returns : goal.returns
returns c = search paging
