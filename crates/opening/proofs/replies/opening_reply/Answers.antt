-- A granted call has row 0 and its figures, a refused one its own row and no figure.
-- Assumes nothing.
use Rattle.opening.specs.Replies.{opening_reply}
use borrow.Author.Rules.{rules}
use Rattle.opening.proofs.replies.opening_reply.Goals as goal

pub returns-in-Ok : goal.returns-in-Ok
unfolding opening_reply
returns-in-Ok c = cc

pub returns-in-Err : goal.returns-in-Err
unfolding opening_reply
returns-in-Err c = cc
