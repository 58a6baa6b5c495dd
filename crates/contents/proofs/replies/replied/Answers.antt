-- No fault is row 0; a fault has its own row.
-- Assumes nothing.
use Rattle.contents.specs.Replies.{reply_of}
use Rattle.contents.proofs.replies.replied.Goals as goal

pub returns-in-Ok : goal.returns-in-Ok
unfolding reply_of
returns-in-Ok c = cc

pub returns-in-Err : goal.returns-in-Err
unfolding reply_of
returns-in-Err c = cc
