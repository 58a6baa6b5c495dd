use Rattle.opening.proofs.ListLaws.{kept-length}
use Rattle.opening.proofs.WriteSteps.{page_end, page-next}
use borrow.Author.Rules.{rules}
use Rattle.opening.proofs.put_page.Goals as goal

ruleset steps = (page_end, page-next, kept-length, rules)

pub loop-p-preserved : goal.loop-p-preserved
loop-p-preserved c =
    (search steps, page-next _ _ _ 288 _ _ c.requires.1 c.loop-p.invariant.1 _ _ c.loop-p-test.true c.read_item.ensures c.item_word.ensures)

pub returns : goal.returns
returns c = search steps
