-- The number is laid, and the space behind it.
-- Assumes nothing.
use Rattle.lines.proofs.PrintLaws.{printed}
use Rattle.lines.proofs.output.put_figure.Goals as goal

pub returns : goal.returns
returns c = search printed
