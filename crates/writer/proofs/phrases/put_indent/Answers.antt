-- Two blanks for each depth, from four.
-- Assumes nothing.
use borrow.Author.Rules.{rules}
use Rattle.writer.proofs.PhraseSteps.{indent-room, indents}
use Rattle.writer.proofs.phrases.put_indent.Goals as goal

pub overflow_mul-depth : goal.overflow_mul-depth
overflow_mul-depth c =
    let w = indent-room c.args.out.now c.args.at c.args.depth c.requires in search rules

pub overflow_add-depth : goal.overflow_add-depth
overflow_add-depth c =
    let w = indent-room c.args.out.now c.args.at c.args.depth c.requires in search rules

pub put_spaces-requires : goal.put_spaces-requires
put_spaces-requires c =
    let w = indent-room c.args.out.now c.args.at c.args.depth c.requires in search rules

pub shape_of-out : goal.shape_of-out
shape_of-out c = search indents

pub returns : goal.returns
returns c = search indents
