-- Each case of the definition is a case of the code.
-- Assumes nothing.
use Rattle.links.proofs.LinkSteps.{turn-none, turn-own, turning}
use Rattle.links.proofs.following.turn_by.Goals as goal
use Rattle.links.proofs.following.turn_by.Goals.{then-not-is_link-via-then-not-is_link, then-not-is_link-via-else-not-is_link+then-own}

pub returns-then-not-is_link : goal.returns-then-not-is_link
returns-then-not-is_link c =
    elim c.then-not-is_link.branch [
      | then-not-is_link-via-then-not-is_link w ↦ turn-none _ _ c.is_link.ensures _ _ _ c.way_by.ensures w.if-not-is_link.true
      | then-not-is_link-via-else-not-is_link+then-own w ↦ turn-own _ _ c.is_link.ensures _ _ _ c.way_by.ensures w.if-not-is_link.false w.if-own.true
    ]

pub returns-then-followed-lt-MOST_LINKS : goal.returns-then-followed-lt-MOST_LINKS
returns-then-followed-lt-MOST_LINKS c = search turning

pub returns : goal.returns
returns c = search turning
