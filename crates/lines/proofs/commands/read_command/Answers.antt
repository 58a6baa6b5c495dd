-- The first of the three words that the line begins with decides, and the line has its two bytes.
-- Assumes nothing.
use Rattle.lines.proofs.CommandSteps.{letters}
use Rattle.lines.proofs.commands.read_command.Goals as goal

pub slice_bounds-read_open-count : goal.slice_bounds-read_open-count
slice_bounds-read_open-count c = search letters

pub slice_bounds-read_open-start : goal.slice_bounds-read_open-start
slice_bounds-read_open-start c = search letters

pub returns-then-begins : goal.returns-then-begins
returns-then-begins c = search letters

pub slice_bounds-read_hear-count : goal.slice_bounds-read_hear-count
slice_bounds-read_hear-count c = search letters

pub slice_bounds-read_hear-start : goal.slice_bounds-read_hear-start
slice_bounds-read_hear-start c = search letters

pub returns-then-begins-2 : goal.returns-then-begins-2
returns-then-begins-2 c = search letters

pub slice_bounds-read_pass-count : goal.slice_bounds-read_pass-count
slice_bounds-read_pass-count c = search letters

pub slice_bounds-read_pass-start : goal.slice_bounds-read_pass-start
slice_bounds-read_pass-start c = search letters

pub returns-then-begins-3 : goal.returns-then-begins-3
returns-then-begins-3 c = search letters

pub returns : goal.returns
returns c = search letters
