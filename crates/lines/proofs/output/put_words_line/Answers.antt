-- The first word and number are laid, and the rest of the line behind them.
-- Assumes nothing.
use Rattle.lines.proofs.PrintLaws.{printed}
use Rattle.lines.proofs.output.put_words_line.Goals as goal

pub returns : goal.returns
returns c = search printed
