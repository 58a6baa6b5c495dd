-- The word, the number and the line's end are laid one behind the other.
-- Assumes nothing.
use Rattle.lines.proofs.PrintLaws.{printed}
use Rattle.lines.proofs.output.put_word_line.Goals as goal

pub returns : goal.returns
returns c = search printed
