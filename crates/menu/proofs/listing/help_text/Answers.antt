-- Each turn lays one line more.
-- Assumes nothing.
use borrow.Author.Rules.{rules}
use Rattle.menu.specs.Table.{commands}
use Rattle.menu.proofs.TableSteps.{listed-at}
use Rattle.menu.proofs.HelpSteps.{list_on, listing}
use Rattle.menu.proofs.listing.help_text.Goals as goal

pub loop-c-init : goal.loop-c-init
loop-c-init c = search listing

pub loop-c-preserved : goal.loop-c-preserved
unfolding commands
loop-c-preserved c =
    let loop = c.loop-c in
    (search rules, list_on loop.c-index (listed-at _ c.loop-c-test.true) loop.invariant.1 c.put_command_line-at.ensures.0)

pub returns : goal.returns
returns c = search listing
