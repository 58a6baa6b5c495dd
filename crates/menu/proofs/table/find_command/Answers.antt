-- The command at a place of the list is the first of the rest.
-- Assumes nothing.
use Rattle.menu.specs.Table.{commands}
use Rattle.menu.proofs.TableSteps.{listed-at, look-start, look-end, look-found, look-on}
use Rattle.menu.proofs.table.find_command.Goals as goal

pub loop-c-init : goal.loop-c-init
loop-c-init c = look-start _

pub returns-then-same : goal.returns-then-same
unfolding commands
returns-then-same c =
    let e = rw c.entry_of.ensures.name at c.same.ensures in
    look-found _ _ _ c.loop-c.invariant _ (listed-at _ c.loop-c-test.true) _ e c.if-same.true

pub loop-c-preserved : goal.loop-c-preserved
unfolding commands
loop-c-preserved c =
    let e = rw c.entry_of.ensures.name at c.same.ensures in
    look-on _ _ _ c.loop-c.invariant _ (listed-at _ c.loop-c-test.true) _ e c.if-same.false

pub returns : goal.returns
returns c = look-end _ _ _ c.loop-c.invariant c.loop-c-test.false
