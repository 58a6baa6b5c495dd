-- The four counts are read, then laid one behind the other.
-- Assumes nothing.
use borrow.Author.Rules.{rules}
use Rattle.checking.proofs.LineLaws.{lay-counts}
use Rattle.checking.proofs.line.put_counts.Goals as goal

pub returns : goal.returns
returns c = (
  lay-counts c.args.file.bytes.now
      c.event_count-events.ensures.0
      c.item_count-items.ensures.0
      c.action_count-actions.ensures.0
      c.message_count-messages.ensures.0
      c.put_count-at.ensures.0
      c.put_count-at-2.ensures.0
      c.put_count-at-3.ensures.0
      c.put_count.ensures.0,
  search rules,
)
