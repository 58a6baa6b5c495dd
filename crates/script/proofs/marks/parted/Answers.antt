use Rattle.std.specs.Prelude.{◌≡◌, Err}
use borrow.Author.Rules.{rules}
use Rattle.script.proofs.LineSteps.{parting}
use Rattle.script.proofs.marks.parted.Goals as goal

pub returns-in_err-n : goal.returns-in_err-n
returns-in_err-n c = let e : c.from_residual.result ≡ Err c.in_err-n.field-0.0 = search rules in search (parting, e, c.in_err-n.was)

pub returns : goal.returns
returns c = search (parting, c.in_ok-n.was)
