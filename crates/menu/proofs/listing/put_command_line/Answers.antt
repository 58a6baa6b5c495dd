-- The row's usage and help are laid in the line.
-- Assumes nothing.
use Rattle.menu.specs.Table.{row_of}
use Rattle.menu.proofs.HelpSteps.{lay-line, line-ends}
use Rattle.menu.proofs.listing.put_command_line.Goals as goal

pub returns : goal.returns
returns c =
    let held = c.entry_of-row.ensures in
    let p = c.put_bytes-begun.ensures in
    let q = rw held.usage at c.put_padded-used.ensures in
    let s = rw held.help at c.put_bytes-helped.ensures in
    let u = c.put_byte.ensures in
    let k = rw held.help at held.short in
    (lay-line (row_of c.args.c) p q.0 s u, line-ends (row_of c.args.c) p q.0 s u q.1 k)
