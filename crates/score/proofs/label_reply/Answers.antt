-- The file check's fault, else whether there is such a message.
-- Assumes nothing.
use mathlib.Core.Path.{◌≡◌}
use borrow.Author.Rules.{rules}
use Rattle.std.specs.Prelude.{Err}
use Rattle.score.proofs.LookUps.{replies}
use Rattle.score.proofs.label_reply.Goals as goal

pub returns-in_err-check_file : goal.returns-in_err-check_file
returns-in_err-check_file c =
    let e : c.from_residual.result ≡ Err c.in_err-check_file.field-0.0 = search rules in
    search (replies, e, c.in_err-check_file.was)

pub read_counts-c-requires : goal.read_counts-c-requires
read_counts-c-requires c = search (replies, c.in_ok-check_file.was)

pub returns-then-c-n : goal.returns-then-c-n
returns-then-c-n c = search (replies, c.in_ok-check_file.was)

pub returns : goal.returns
returns c = search (replies, c.in_ok-check_file.was)
