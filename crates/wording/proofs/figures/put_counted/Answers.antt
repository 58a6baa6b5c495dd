-- The word is laid, and the number behind it.
-- Assumes nothing.
use Rattle.wording.proofs.FigureLaws.{figures}
use Rattle.wording.proofs.figures.put_counted.Goals as goal

pub put_bytes-at-requires : goal.put_bytes-at-requires
put_bytes-at-requires c = search figures

pub put_figure-requires : goal.put_figure-requires
put_figure-requires c = search figures

pub shape_of-out : goal.shape_of-out
shape_of-out c = search figures

pub returns : goal.returns
returns c = search figures
