-- The list past a limit is told, and else it stands with the numbers.
-- Assumes nothing.
use borrow.Author.Rules.{rules}
use Rattle.unfolder.proofs.NumberSteps.{names-listed, named}
use Rattle.unfolder.proofs.numbering.list.Goals as goal

pub returns-in_default : goal.returns-in_default
returns-in_default c = search named

pub lay-requires : goal.lay-requires
lay-requires c =
    let asked = c.requires in
    (names-listed _ _ _ _ _ _ asked.0 _ _ _ _ c.name_values.ensures _ (search rules) _ _ asked.1 (search rules) (search rules), search rules)

pub shape_of-entries : goal.shape_of-entries
shape_of-entries c = search named

pub shape_of-labels : goal.shape_of-labels
shape_of-labels c = search named

pub shape_of-numbers : goal.shape_of-numbers
shape_of-numbers c = search named

pub shape_of-room : goal.shape_of-room
shape_of-room c = search named

pub returns : goal.returns
returns c = search named

pub name_values-requires : goal.name_values-requires
name_values-requires c = search named
