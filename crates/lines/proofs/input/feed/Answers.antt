-- The chunk's bytes up to its first newline are laid behind the line so far, as far as there is room for them.
-- Assumes nothing.
use Rattle.lines.proofs.FeedSteps.{feeding}
use Rattle.lines.proofs.input.feed.Goals as goal

pub returns-then-stop-chunk : goal.returns-then-stop-chunk
returns-then-stop-chunk c = search feeding

pub returns : goal.returns
returns c = search feeding
