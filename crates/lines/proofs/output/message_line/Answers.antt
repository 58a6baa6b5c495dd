-- The three figures, the label and the line's end are laid one behind the other.
-- Assumes nothing.
use Rattle.lines.proofs.PrintLaws.{lay-message}
use Rattle.lines.proofs.output.message_line.Goals as goal

pub returns : goal.returns
returns c =
    let args = c.args in
    lay-message args.clock args.due args.part
    c.put_figure-at.ensures.0
    c.put_figure-at-2.ensures.0
    c.put_figure-at-3.ensures.0
    c.put_bytes-labelled.ensures
    c.put_byte.ensures
